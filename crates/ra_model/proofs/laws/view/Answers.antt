use Rattle.ra_model.proofs.EveryRun.{hears, keeps_unheard, writes_honestly, reads_in_frames, view_of}
use Rattle.ra_model.proofs.Within.{never_too_long}
use Rattle.ra_model.proofs.Takes.{next_honest}
use Rattle.ra_model.proofs.Sound.{turned}
use Rattle.ra_model.proofs.Runs.{view_new}
use Rattle.ra_model.proofs.laws.view.Goals as goal

pub returns : goal.returns
returns c = record {
  heard = λ start s i j p o links v. hears v;
  kept = λ start s i j p o links v. keeps_unheard v;
  written = λ start s i j p o links v. writes_honestly v;
  read = λ start s i j p o links v. reads_in_frames v;
  next = λ start s i j p o links v f rest. next_honest start s i j p o links f rest v;
  never_too_long = λ start s i j p o links v. never_too_long v;
  away = λ start s i j p o links v. v.away;
  turned = turned;
  begins = view_new;
  every_run = view_of;
}
