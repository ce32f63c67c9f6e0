-- Entering the constants of one instruction more.
use Rattle.std.proofs.Common.{◌≡◌, ℕ, ◌+◌, ◌<◌, List, [], ◌∷◌, ◌++◌, length, get_or, take, drop, Some, sym, ap, ◌∙◌, append_assoc, ◌⊎◌, inl, inr}
use Rattle.std.specs.List.{flat_map, AllByRecursion}
use Rattle.std.proofs.lemmas.List.{append-nil}
use Rattle.std.proofs.lemmas.List.Concat.{flat_map-append}
use Rattle.wv_base.specs.declared.class_file.PoolEntry.{PoolEntry}
use Rattle.wv_base.specs.declared.constant.Const.{Const}
use Rattle.wv_base.specs.declared.insn.Insn.{Insn}
use Rattle.wv_pool.specs.Adding.{needs, AreTooMany, Keeps, Grows}
use Rattle.wv_pool.specs.Constants.{constant_of}
use Rattle.wv_pool.specs.Numbers.{Named}
use Rattle.wv_code.specs.Entering.{Puts, Enters, none, next, MeetsFull}
use Rattle.wv_code.proofs.Lists.{split_at, flat_map-more, AllByRecursion-push, AllByRecursion-map}

-- what a loop over the instructions keeps
pub record Entered (old : List PoolEntry) (cs : List Const) (new : List PoolEntry) : Type 0 where
  pub older : (n : ℕ) (c : Const) → constant_of old n ≡ Some c → constant_of new n ≡ Some c
  pub kept : Keeps old new
  pub entered : Enters old cs new
  pub named : AllByRecursion (Named new) cs

pub nothing : (pool : List PoolEntry) → Entered pool [] pool
nothing pool = record { older = λ n c h. h; kept = ([], sym (append-nil pool)); entered = none; named = tt }

pub kept_on : (old middle new : List PoolEntry) → Keeps old middle → Keeps middle new → Keeps old new
kept_on old middle new a b = (a.0 ++ b.0, b.1 ∙ ap (λ (t : List PoolEntry). t ++ b.0) a.1 ∙ append_assoc old a.0 b.0)

-- a constant more
pub one_more : (old middle new : List PoolEntry) (cs : List Const) (c : Const) → Entered old cs middle → ((n : ℕ) (c : Const) → constant_of middle n ≡ Some c → constant_of new n ≡ Some c)
    → Keeps middle new → Puts middle c new → Named new c → Entered old (cs ++ c ∷ []) new
one_more old middle new cs c so_far older kept puts named = record {
  older = λ n d h. older n d (so_far.older n d h);
  kept = kept_on old middle new so_far.kept kept;
  entered = next so_far.entered puts;
  named = AllByRecursion-push (Named new) cs c (AllByRecursion-map (Named middle) (Named new) cs (λ d h. (h.0, older h.0 d h.1)) so_far.named) named;
}

-- the constants of the first instructions, with or without one more
pub with_one : (f : Insn → List Const) (insns : List Insn) (k : ℕ) (d : Insn) (c : Const) → k < length insns → f (get_or insns k d) ≡ c ∷ [] → flat_map f (take (k + 1) insns) ≡ flat_map f (take k insns) ++ c ∷ []
with_one f insns k d c lt is = flat_map-more f insns k d lt ∙ ap (λ (t : List Const). flat_map f (take k insns) ++ t) is

pub with_none : (f : Insn → List Const) (insns : List Insn) (k : ℕ) (d : Insn) → k < length insns → f (get_or insns k d) ≡ [] → flat_map f (take (k + 1) insns) ≡ flat_map f (take k insns)
with_none f insns k d lt is = flat_map-more f insns k d lt ∙ ap (λ (t : List Const). flat_map f (take k insns) ++ t) is ∙ append-nil (flat_map f (take k insns))

-- where the next constant has no room
pub is_full : (f : Insn → List Const) (old middle : List PoolEntry) (insns : List Insn) (k : ℕ) (d : Insn) (c : Const) → k < length insns → Enters old (flat_map f (take k insns)) middle → f (get_or insns k d) ≡ c ∷ []
    → AreTooMany middle (needs c) → MeetsFull old (flat_map f insns)
is_full f old middle insns k d c lt entered is full = record {
  before = flat_map f (take k insns);
  constant = c;
  after = flat_map f (drop (k + 1) insns);
  pool = middle;
  parts =
      ap (λ (t : List Insn). flat_map f t) (split_at insns k d lt)
      ∙ flat_map-append f (take k insns) (get_or insns k d ∷ drop (k + 1) insns)
      ∙ ap (λ (t : List Const). flat_map f (take k insns) ++ (t ++ flat_map f (drop (k + 1) insns))) is;
  entered = entered;
  full = full;
}

-- what adding a constant answers
pub puts : (old : List PoolEntry) (c : Const) (new : List PoolEntry) → (Named old c → new ≡ old) → Named old c ⊎ Grows old (needs c) new → Puts old c new
puts old c new same (inl named) = inl (named, same named)
puts old c new same (inr grows) = inr grows

-- the constant of an instruction, where it names one, was put into the pool
pub one_or_none : (f : Insn → List Const) (old middle new : List PoolEntry) (insns : List Insn) (k : ℕ) (d : Insn) → k < length insns → Entered old (flat_map f (take k insns)) middle
    → ((n : ℕ) (c : Const) → constant_of middle n ≡ Some c → constant_of new n ≡ Some c) → Keeps middle new
    → ((f (get_or insns k d) ≡ []) × (new ≡ middle)) ⊎ ((c : Const) × (f (get_or insns k d) ≡ c ∷ []) × Puts middle c new × Named new c)
    → Entered old (flat_map f (take (k + 1) insns)) new
one_or_none f old middle new insns k d lt so_far older kept (inl empty) = rw (with_none f insns k d lt empty.0, empty.1) so_far
one_or_none f old middle new insns k d lt so_far older kept (inr one) =
    rw (with_one f insns k d one.0 lt one.1) (one_more old middle new (flat_map f (take k insns)) one.0 so_far older kept one.2 one.3)
