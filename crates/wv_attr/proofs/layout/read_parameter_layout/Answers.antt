use Rattle.std.proofs.Common.{◌≡◌, true, false, refl, inl, inr}
use Rattle.wv_attr.proofs.Parameters.{breaks_first, no_lists, breaks_behind}
use Rattle.wv_attr.proofs.layout.read_parameter_layout.Goals as goal

pub returns-then-not-fills-clause-fault : goal.returns-then-not-fills-clause-fault
returns-then-not-fills-clause-fault c =
    inl (breaks_first c.args.bytes.now c.args.missing c.in-len1-up.len_at_least (λ fits. let bad : false ≡ true = c.if-not-fills.ensures.1 (rw c.from-count.ensures fits) in absurd cc))

pub returns-then-not-fills-clause-only : goal.returns-then-not-fills-clause-only
returns-then-not-fills-clause-only c =
    no_lists c.args.bytes.now c.args.missing c.in-len1-up.len_at_least (λ fits. let bad : false ≡ true = c.if-not-fills.ensures.1 (rw c.from-count.ensures fits) in absurd cc)

pub returns-in-Err-Layout-clause-fault : goal.returns-in-Err-Layout-clause-fault
returns-in-Err-Layout-clause-fault c =
    let fits = c.if-not-fills.ensures.0 refl in
    let found = rw c.in-Err-Layout.field-0-is at c.in-Err-Layout.ensures.fault in
    inr (breaks_behind c.args.bytes.now c.args.missing c.in-Err-Layout.at c.in-len1-up.len_at_least c.requires (rw (← c.from-count.ensures) fits) (rw (← c.from-count.ensures, ← c.lists.ensures) found))
