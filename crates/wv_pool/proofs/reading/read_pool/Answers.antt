use Rattle.std.proofs.Common.{List, ◌++◌, drop, sym, ap, ◌∙◌, subst, ℕ}
use Rattle.std.proofs.lemmas.List.{take-append-drop}
use Rattle.wv_base.specs.declared.class_file.PoolEntry.{PoolEntry}
use Rattle.wv_pool.specs.References.{FirstBreaks}
use Rattle.wv_pool.proofs.PoolReads.{no_break}
use Rattle.wv_pool.proofs.reading.read_pool.Goals as goal

pub returns-in-Some-clause-only : goal.returns-in-Some-clause-only
returns-in-Some-clause-only c = λ pool rest is starts.
    let broken = rw (c.in-Some.is, c.deref.ensures.value) at c.in_ok-at.ensures.found in
    let same = c.in_ok-entries.ensures.only pool rest is.0 starts in
    no_break pool c.in-Some.at is (subst (λ (p : List PoolEntry). FirstBreaks p c.in-Some.at) same.0 broken)

pub returns-in-Some-clause-fault : goal.returns-in-Some-clause-fault
returns-in-Some-clause-fault c = record {
  pool = c.in_ok-entries.entries.items;
  rest = drop c.in_ok-entries.len c.args.bytes.now;
  layout = c.in_ok-entries.ensures.found.0;
  starts = sym (take-append-drop c.in_ok-entries.len c.args.bytes.now) ∙ ap (λ (t : List ℕ). t ++ drop c.in_ok-entries.len c.args.bytes.now) c.in_ok-entries.ensures.found.1;
  breaks = rw (c.in-Some.is, c.deref.ensures.value) at c.in_ok-at.ensures.found;
}
