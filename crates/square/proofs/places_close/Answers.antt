use Rattle.square.proofs.Places.{closes}
use Rattle.square.proofs.places_close.Goals as goal

pub returns : goal.returns
returns c = closes
