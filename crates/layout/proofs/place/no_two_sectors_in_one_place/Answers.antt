use Rattle.layout.proofs.Homing.{homes}
use Rattle.layout.proofs.place.no_two_sectors_in_one_place.Goals as goal

pub returns : goal.returns
returns c = homes
