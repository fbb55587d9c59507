use Rattle.ra_grand_runs.specs.GrandRuns.{after, run}
use Rattle.ra_grand_runs.proofs.RunLaws.{lasts_after, lasts_run, place_stays, key_stays}
use Rattle.ra_grand_runs.proofs.laws.places_stay.Goals as goal

pub returns : goal.returns
returns c = record {
  event = λ entry w n place is. place_stays w (after entry w) n place (lasts_after entry w) is;
  run = λ entries w n place is. place_stays w (run entries w) n place (lasts_run entries w) is;
  client = λ entry w n key is. key_stays w (after entry w) n key (lasts_after entry w) is;
  clients = λ entries w n key is. key_stays w (run entries w) n key (lasts_run entries w) is;
}
