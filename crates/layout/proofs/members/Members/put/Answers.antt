use Rattle.std.proofs.Common.{length, set, ap, ◌∙◌, arith}
use Rattle.std.proofs.Math.Seq.{take-set-lt}
use Rattle.layout.specs.Members.{Membership}
use Rattle.layout.proofs.Listing.{packed_set}
use Rattle.layout.proofs.members.Members.put.Goals as goal

pub invariant_of-self : goal.invariant_of-self
invariant_of-self c =
    let e = ap (λ (v : Membership). v.list) c.self.view_is in packed_set _ _ c.self.invariant c.args.d c.args.p (rw e c.requires.place) c.requires.new.0 (rw e c.requires.new.1)

pub returns-clause-list : goal.returns-clause-list
returns-clause-list c =
    take-set-lt _ _ _ _ (omega (arith, ap (λ (v : Membership). length v.list) c.self.view_is, c.self.invariant.many)) ∙ ap (λ (v : Membership). set v.list c.args.p c.args.d) c.self.view_is
