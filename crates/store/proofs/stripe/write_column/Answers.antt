use Rattle.std.proofs.Common.{◌≡◌, ℕ, List, Some, None, Option, Bor, get_or, replicate, refl, ap, ◌∙◌, subst, arith}
use Rattle.std.specs.Option.{unwrap_or, option_map}
use Rattle.field.specs.Stripe.{held}
use Rattle.store.specs.Durable.{Here, Went, Shows}
use Rattle.store.proofs.stripe.write_column.Goals as goal

-- what is lent of an option, or else
now_or : (o : Option (Bor (List ℕ))) (x : Bor (List ℕ)) → (unwrap_or o x).now ≡ unwrap_or (option_map (λ (y : Bor (List ℕ)). y.now) o) x.now
now_or None x = refl
now_or (Some y) x = refl

column_is : (stripe : List (List ℕ)) (i : ℕ) (o : Option (Bor (List ℕ))) (x b : Bor (List ℕ)) → b ≡ unwrap_or o x → x.now ≡ replicate 64 0
    → unwrap_or (option_map (λ (y : Bor (List ℕ)). y.now) o) (replicate 64 0) ≡ get_or stripe i (replicate 64 0) → b.now ≡ held stripe i
unfolding held
column_is stripe i o x b e ex l = ap (λ (y : Bor (List ℕ)). y.now) e ∙ now_or o x ∙ ap (unwrap_or (option_map (λ (y : Bor (List ℕ)). y.now) o)) ex ∙ l

pub returns-in_err-write_sector-clause-went : goal.returns-in_err-write_sector-clause-went
returns-in_err-write_sector-clause-went g c =
    let e = column_is c.args.stripe.now c.args.i c.get.result _ c.unwrap_or-column.result c.unwrap_or-column.ensures refl (c.get.ensures.lookup.4 (omega arith) (replicate 64 0)) in
    subst (λ (v : List ℕ). Went 1 (Here c.args.at c.args.s v) (g.D.Disks.shelf c.args.d.now) (g.D.Disks.seen c.args.d.now) (g.D.Disks.shelf c.write_sector.new.d) (g.D.Disks.seen c.write_sector.new.d)) e c.write_sector.ensures.went

pub returns : goal.returns
returns g c =
    let e = column_is c.args.stripe.now c.args.i c.get.result _ c.unwrap_or-column.result c.unwrap_or-column.ensures refl (c.get.ensures.lookup.4 (omega arith) (replicate 64 0)) in
    let w = c.in_ok-write_sector.ensures.how in
    record {
      went = subst (λ (v : List ℕ). Went 1 (Here c.args.at c.args.s v) (g.D.Disks.shelf c.args.d.now) (g.D.Disks.seen c.args.d.now) (g.D.Disks.shelf c.write_sector.new.d) (g.D.Disks.seen c.write_sector.new.d)) e c.write_sector.ensures.went;
      how = (w.lit, subst (λ (v : List ℕ). Shows (g.D.Disks.shelf c.write_sector.new.d) c.args.at c.args.s v) e w.shows);
    }
