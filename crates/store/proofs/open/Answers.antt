use Rattle.std.proofs.lemmas.Result.{err_from_is_err_and}
use Rattle.std.proofs.lemmas.Bool.{true≢false}
use Rattle.store.proofs.Histories.{ticks_deaths}
use Rattle.store.proofs.Opening.{opened, lost_again}
use Rattle.store.proofs.open.Goals as goal

pub returns-in_err-superblock : goal.returns-in_err-superblock
returns-in_err-superblock g c =
    let p = err_from_is_err_and c.from_residual.result c.from_residual.ensures.1 in
    let died = c.come_up.ensures.deaths in
    let down = c.in_err-superblock.ensures.how in
    record { only = λ _. down.off; opened = simp p.1 (lost_again c.requires.back died down); ticked = ticks_deaths died; spent = c.come_up.ensures.spent }

pub returns : goal.returns
returns g c =
    let died = c.come_up.ensures.deaths in
    let up = c.in_ok-superblock.ensures.how in
    record {
      only = λ e. absurd (true≢false e);
      opened = opened c.sectors.result c.in_ok-superblock.superblock c.new.result _ died c.sectors.ensures c.new.ensures.0 c.new.ensures.1 c.requires.back up.0 up.1;
      ticked = ticks_deaths died;
      spent = c.come_up.ensures.spent;
    }
