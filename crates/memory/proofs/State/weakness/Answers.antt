use Rattle.std.proofs.Common.{◌≡◌, ◌&&◌, count_by, length, sym, ap, ◌∙◌, rules}
use Rattle.store.specs.Shelf.{count}
use Rattle.memory.specs.Held.{disk_at}
use Rattle.memory.specs.declared.Disk.{Disk}
use Rattle.memory.proofs.Laws.{count_is}
use Rattle.memory.proofs.State.weakness.Goals as goal

pub returns : goal.returns
returns c =
    let weak = λ (k : Disk). k.in_use && k.lost in
    let e : c.count.result ≡ count_by weak c.args.self.now.disks = search rules in
    let l : length c.args.self.now.disks ≡ 16 = search rules in
    e ∙ (sym (count_is weak c.args.self.now.disks) ∙ ap (λ n. count n (λ d. weak (disk_at c.args.self.now d))) l)
