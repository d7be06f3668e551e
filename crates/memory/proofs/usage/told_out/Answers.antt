use Rattle.std.proofs.Common.{inl, inr}
use Rattle.memory.proofs.Uses.{told_no, told_done, told_added, told_replaced, told_none}
use Rattle.memory.proofs.usage.told_out.Goals as goal

pub returns-in-Add-No : goal.returns-in-Add-No
returns-in-Add-No c = told_no _ _ _ _ (inl c.in-Add-No.is-0) c.in-Add-No.is-1

pub returns-in-Replace-No : goal.returns-in-Replace-No
returns-in-Replace-No c = told_no _ _ _ _ (inr (_, c.in-Replace-No.is-0)) c.in-Replace-No.is-1

pub returns-in-Replace-Done : goal.returns-in-Replace-Done
returns-in-Replace-Done c = told_done _ _ _ _ c.in-Replace-Done.is-0 c.in-Replace-Done.is-1

pub returns-in_default : goal.returns-in_default
returns-in_default c = told_added _ _ _ c.in_default.is-0 c.in_default.not-No-1

pub returns-in_default-2 : goal.returns-in_default-2
returns-in_default-2 c = told_replaced _ _ _ _ c.in_default.is-0 c.in_default.not-Done-1 c.in_default.not-No-1

pub returns-in_default-3 : goal.returns-in_default-3
returns-in_default-3 c = told_none _ _ c.in_default.not-Add-0 c.in_default.not-Replace-0
