use Rattle.store.proofs.Carried.{only_one}
use Rattle.store.proofs.journal.carry.Goals as goal

pub returns-in_err-write_sector-clause-went : goal.returns-in_err-write_sector-clause-went
returns-in_err-write_sector-clause-went g c = only_one c.read_sector.ensures.went c.write_sector.ensures.went

pub returns-in_ok-write_sector-clause-went : goal.returns-in_ok-write_sector-clause-went
returns-in_ok-write_sector-clause-went g c =
    let h = c.in_ok-read_sector.ensures.how in
    let w = c.in_ok-write_sector.ensures.how in
    only_one c.read_sector.ensures.went c.write_sector.ensures.went
