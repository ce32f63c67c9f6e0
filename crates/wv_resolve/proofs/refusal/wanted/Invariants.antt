use Rattle.std.proofs.Common.{◌≡◌, ◌++◌, take, string_bytes}
use Rattle.wv_resolve.specs.Refusal.{or_texts}
use Rattle.wv_resolve.proofs.refusal.wanted.Given as goal

-- the id, the first text and the others so far
abbrev pub invariant-loop-other : goal.invariant-loop-other
invariant-loop-other l = string_bytes l.wanted ≡ string_bytes l.initial.wanted ++ or_texts (take l.other-index l.others)
