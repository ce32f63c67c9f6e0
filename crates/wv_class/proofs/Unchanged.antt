-- A pool that names all constants stays as it is when they are put into it.
use Rattle.std.proofs.Common.{◌≡◌, ℕ, List, [], ◌∷◌, ◌++◌, refl, sym, ap, subst, ◌∙◌, ◌⊎◌, inl, inr, arith}
use Rattle.std.specs.List.{AllByRecursion}
use Rattle.std.proofs.lemmas.List.{append-nil}
use Rattle.wv_base.specs.declared.class_file.PoolEntry.{PoolEntry}
use Rattle.wv_base.specs.declared.constant.Const.{Const}
use Rattle.wv_pool.specs.References.{IsPool}
use Rattle.wv_pool.specs.Numbers.{Named}
use Rattle.wv_pool.specs.Adding.{needs, Lacks, none, named, Keeps, Grows, AreTooMany}
use Rattle.wv_code.specs.Entering.{Puts, Enters, none as enters_none, next, MeetsFull}
use Rattle.wv_code.proofs.Written.{all_front, all_back}
use Rattle.wv_code.proofs.OffsetFrames.{grown_same, not_many}
use Rattle.wv_class.proofs.NamedParts.{parts_named}

module _ (pool : List PoolEntry) (sound : IsPool pool) where
  lacks_none : (cs : List Const) → AllByRecursion (Named pool) cs → Lacks pool cs 0
  lacks_none [] h = none
  lacks_none (c ∷ cs) h = named h.0 (lacks_none cs h.1)

  -- it grows by nothing
  pub grows_same : (cs : List Const) → AllByRecursion (Named pool) cs → Grows pool cs pool
  grows_same cs h = record {
    more = [];
    longer = sym (append-nil pool);
    lacks = lacks_none cs h;
    all = h;
    only = λ c there. inl there;
  }

  pub many_never : (cs : List Const) → AllByRecursion (Named pool) cs → AreTooMany pool cs → ⊥
  many_never cs all many = not_many pool cs sound.0.0 many all

  put_same : (c : Const) (new : List PoolEntry) → Named pool c → Puts pool c new → new ≡ pool
  put_same c new there (inl same) = same.1
  put_same c new there (inr grows) = grown_same pool new (needs c) grows (parts_named pool c sound there)

  pub enters_same : (cs : List Const) (new : List PoolEntry) → AllByRecursion (Named pool) cs → Enters pool cs new → new ≡ pool
  enters_same cs new all enters_none = refl
  enters_same cs new all (next {cs = front} {c = c} {middle = middle} entered puts) =
      let before = enters_same front middle (all_front (Named pool) front (c ∷ []) all) entered in
      put_same c new (all_back (Named pool) front (c ∷ []) all).0 (subst (λ (p : List PoolEntry). Puts p c new) before puts)

  pub full_never : (cs : List Const) → AllByRecursion (Named pool) cs → MeetsFull pool cs → ⊥
  full_never cs all m =
      let split = subst (AllByRecursion (Named pool)) m.parts all in
      let before = enters_same m.before m.pool (all_front (Named pool) m.before (m.constant ∷ m.after) split) m.entered in
      let there = (all_back (Named pool) m.before (m.constant ∷ m.after) split).0 in
      many_never (needs m.constant) (parts_named pool m.constant sound there) (subst (λ (p : List PoolEntry). AreTooMany p (needs m.constant)) before m.full)
