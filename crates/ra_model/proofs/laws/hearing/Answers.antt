use Rattle.ra_model.proofs.Hearing as h
use Rattle.ra_model.proofs.laws.hearing.Goals as goal

pub returns : goal.returns
returns c = record { places = h.heard_places; unique = h.heard_places_unique }
