use Rattle.std.proofs.Common.{length, ap, arith}
use Rattle.layout.specs.Members.{Membership}
use Rattle.layout.proofs.Listing.{packed_more}
use Rattle.layout.proofs.members.Members.append.Goals as goal

pub invariant_of-self : goal.invariant_of-self
invariant_of-self c =
    packed_more _ _ c.self.invariant (omega arith) (omega (arith, ap (λ (v : Membership). length v.list) c.self.view_is, c.self.invariant.many))
    c.args.d c.requires.new.0 (rw (ap (λ (v : Membership). v.list) c.self.view_is) c.requires.new.1)
