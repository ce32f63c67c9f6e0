-- Entering the numbers of a pool into an index, one after the other.
use Rattle.std.proofs.Common.{◌≡◌, ◌≢◌, ℕ, zero, suc, ◌+◌, ◌≤◌, ◌<◌, List, length, Option, Some, None, refl, sym, ap, subst, ◌∙◌, ◌⊎◌, inl, inr, arith, add-one, get_or, set}
use Rattle.std.specs.Prelude.{slice_get, IsSomeAnd}
use Rattle.std.specs.Option.{option_and_then}
use Rattle.std.specs.List.{AllByRecursion}
use Rattle.std.proofs.lemmas.List.{get_or-set_same, get_or-set_other, length-set}
use Rattle.std.proofs.lemmas.Option.{slice_get_within, slice_get_read}
use Rattle.std.proofs.lemmas.Bool.{cases_lt}
use Rattle.wv_base.specs.declared.class_file.PoolEntry.{PoolEntry}
use Rattle.wv_base.specs.declared.class_file.PoolEntry.TheVariants as entries
use Rattle.wv_base.specs.declared.constant.Const.{Const}
use Rattle.wv_pool.specs.declared.key.Key.{Key}
use Rattle.wv_pool.specs.References.{entry_of, IsSound}
use Rattle.wv_pool.specs.Constants.{constant_in, constant_of}
use Rattle.wv_pool.specs.Index.{Inserts, HasOrInserts}
use Rattle.wv_pool.specs.Numbers.{find_key, number_for, IsIn, Enters}
use Rattle.wv_pool.specs.Building.{level_in, level_at, IsDone, first_of, key_with, IsBuilt}
use Rattle.wv_pool.proofs.Behind.{some_is, then_some, entry_tag, tag_is, tag_level, level_is}
use Rattle.wv_pool.proofs.SoundPools.{sound_at, constant_there}
use Rattle.wv_pool.proofs.Numbering.{enters, number_kept, number_now}
use Rattle.wv_pool.proofs.Putting.{key_there, key_some, low_level, usable}

-- numbers that name one constant have one level
same_level : (pool : List PoolEntry) (m n : ℕ) (c : Const) → constant_of pool m ≡ Some c → constant_of pool n ≡ Some c → level_at (entry_of pool m) ≡ level_at (entry_of pool n)
same_level pool m n c a b =
    let s = then_some (constant_in pool) (entry_of pool m) c a in
    let t = then_some (constant_in pool) (entry_of pool n) c b in
    let tags : entry_tag s.0 ≡ entry_tag t.0 = tag_is pool s.0 c s.2 ∙ sym (tag_is pool t.0 c t.2) in
    ap level_at s.1 ∙ level_is s.0 ∙ ap tag_level tags ∙ sym (level_is t.0) ∙ sym (ap level_at t.1)

-- the same numbers, said in another way
enters_as : (pool : List PoolEntry) (A B : ℕ → Type 0) (g : Key → Option ℕ) → ((m : ℕ) → A m → B m) → ((m : ℕ) (c : Const) → constant_of pool m ≡ Some c → B m → A m) → Enters pool A g → Enters pool B g
enters_as pool A B g to from right = record {
  named = λ d m h. let r = right.named d m h in (r.0, to m r.1);
  least = λ d m is h. right.least d m (from m d h is) h;
  mentioned = λ q f m h mention. to m (right.mentioned q f m h mention);
}

-- ---- the start and the end

pub built_first : (pool : List PoolEntry) (table : List ℕ) (g : Key → Option ℕ) → length table ≡ length pool + 1 → ((k : Key) → g k ≡ None) → IsBuilt pool 0 0 table g
built_first pool table g long none = record {
  long = long;
  right = record {
    named = λ d m h. absurd (nothing d m h);
    least = λ d m is h. absurd (nowhere m is);
    mentioned = λ q f m h mention. let never : ◌≡◌ {A = Option ℕ} None (Some f) = sym (none q) ∙ h in absurd cc;
  };
  firsts = λ n c is h. absurd (nowhere n is);
}
  where
    nothing : (d : Const) (m : ℕ) → number_for g d ≡ Some m → ⊥
    nothing d m h = let t = then_some g (find_key g d) m h in let never : ◌≡◌ {A = Option ℕ} None (Some m) = sym (none t.0) ∙ t.2 in absurd cc

    nowhere : (n : ℕ) → IsDone pool 0 0 n → ⊥
    nowhere n (inl low) = omega arith
    nowhere zero (inr at) = let l = at.0 in omega (arith, l)
    nowhere (suc n) (inr at) = let l = at.1 in omega (arith, l)

entry_within : (pool : List PoolEntry) (n : ℕ) → level_at (entry_of pool n) < 5 → n ≤ length pool
entry_within pool zero low = omega arith
entry_within pool (suc place) low = go (slice_get pool place) refl low
  where
    go : (o : Option PoolEntry) → slice_get pool place ≡ o → level_at o < 5 → suc place ≤ length pool
    go None e low = absurd (omega arith)
    go (Some entry) e low = slice_get_within pool place entry e

-- a level is done
pub built_level : (pool : List PoolEntry) (level : ℕ) (table : List ℕ) (g : Key → Option ℕ) → level ≤ 3 → IsBuilt pool level (length pool) table g → IsBuilt pool (level + 1) 0 table g
built_level pool level table g low is = record {
  long = is.long;
  right = enters_as pool (IsDone pool level (length pool)) (IsDone pool (level + 1) 0) g up (λ m c _. down m) is.right;
  firsts = λ n c d h. is.firsts n c (down n d) h;
}
  where
    up : (m : ℕ) → IsDone pool level (length pool) m → IsDone pool (level + 1) 0 m
    up m (inl h) = inl (omega arith)
    up m (inr h) = let l = h.0 in inl (omega (arith, l))

    down : (m : ℕ) → IsDone pool (level + 1) 0 m → IsDone pool level (length pool) m
    down m (inl h) = split (cases_lt (level_at (entry_of pool m)) level)
      where
        split : (level_at (entry_of pool m) < level) ⊎ (level ≤ level_at (entry_of pool m)) → IsDone pool level (length pool) m
        split (inl l) = inl l
        split (inr l) = inr (omega arith, entry_within pool m (omega arith))
    down zero (inr h) = let l = h.0 in absurd (omega (arith, l))
    down (suc m) (inr h) = let l = h.1 in absurd (omega (arith, l))

pub built_last : (pool : List PoolEntry) (table : List ℕ) (g : Key → Option ℕ) → IsBuilt pool 4 0 table g → Enters pool (IsIn pool) g
built_last pool table g is = enters_as pool (IsDone pool 4 0) (IsIn pool) g within (λ m c h _. usable_done m c h) is.right
  where
    within : (m : ℕ) → IsDone pool 4 0 m → IsIn pool m
    within m (inl h) = entry_within pool m (omega arith)
    within m (inr h) = let l = h.1 in omega (arith, l)

    usable_done : (m : ℕ) (c : Const) → constant_of pool m ≡ Some c → IsDone pool 4 0 m
    usable_done m c h =
        let t = then_some (constant_in pool) (entry_of pool m) c h in
        let low = low_level t.0 (usable pool t.0 c t.2) in
        let at : level_at (entry_of pool m) ≡ level_in t.0 = ap level_at t.1 in
        inl (omega (arith, low, at))

-- ---- one number more

module _ (pool : List PoolEntry) (level last : ℕ) (e : PoolEntry) (here : entry_of pool (last + 1) ≡ Some e) where
  level_here : level_at (entry_of pool (last + 1)) ≡ level_in e
  level_here = ap level_at here

  done_more : (m : ℕ) → IsDone pool level last m ⊎ (m ≡ last + 1) → level_in e ≡ level → IsDone pool level (last + 1) m
  done_more m (inl (inl l)) same = inl l
  done_more m (inl (inr l)) same = let p = l.0 in let q = l.1 in inr (p, omega (arith, q))
  done_more m (inr is) same = inr (ap (λ (n : ℕ). level_at (entry_of pool n)) is ∙ level_here ∙ same, omega (arith, is))

  done_less : (m : ℕ) → IsDone pool level (last + 1) m → IsDone pool level last m ⊎ (m ≡ last + 1)
  done_less m (inl l) = inl (inl l)
  done_less m (inr l) = let p = l.0 in let q = l.1 in elim (cases_lt last m) [
    | inl more ↦ inr (omega (arith, more, q))
    | inr le ↦ inl (inr (p, le))
  ]

  -- an entry of another level
  pub built_other : (table : List ℕ) (g : Key → Option ℕ) → level_in e ≢ level → IsBuilt pool level last table g → IsBuilt pool level (last + 1) table g
  built_other table g other is = record {
    long = is.long;
    right = enters_as pool (IsDone pool level last) (IsDone pool level (last + 1)) g to (λ m c _. from m) is.right;
    firsts = λ n c d h. is.firsts n c (from n d) h;
  }
    where
      to : (m : ℕ) → IsDone pool level last m → IsDone pool level (last + 1) m
      to m (inl l) = inl l
      to m (inr l) = let p = l.0 in let q = l.1 in inr (p, omega (arith, q))

      from : (m : ℕ) → IsDone pool level (last + 1) m → IsDone pool level last m
      from m (inl l) = inl l
      from m (inr l) = let p = l.0 in let q = l.1 in elim (cases_lt last m) [
        | inl more ↦ absurd (other (sym level_here ∙ ap (λ (n : ℕ). level_at (entry_of pool n)) (omega (arith, more, q)) ∙ p))
        | inr le ↦ inr (p, le)
      ]

  -- an entry of this level
  module _ (table : List ℕ) (g : Key → Option ℕ) (low : level ≤ 3) (sound : AllByRecursion (IsSound pool) pool) (same : level_in e ≡ level) (is : IsBuilt pool level last table g) where
    is_usable : e ≡ entries.Unusable → ⊥
    is_usable u = let l : level_in e ≡ 4 = ap level_in u in omega (arith, l, same, low)

    constant_here : (c : Const) × (constant_in pool e ≡ Some c)
    constant_here = constant_there pool sound e (sound_at pool sound (last + 1) e here) is_usable

    names_here : constant_of pool (last + 1) ≡ Some constant_here.0
    names_here = ap (option_and_then (constant_in pool)) here ∙ constant_here.1

    found_here : find_key g constant_here.0 ≡ key_with (first_of table) e
    found_here = key_there pool g (first_of table) level (λ n d l h. is.firsts n d (inl l) h) e constant_here.0 (omega (arith, same)) (sound_at pool sound (last + 1) e here) constant_here.1

    fresh : IsDone pool level last (last + 1) → ⊥
    fresh (inl l) = let h = level_here in omega (arith, l, h, same)
    fresh (inr l) = let q = l.1 in omega (arith, q)

    place_fits : last + 1 < length table
    place_fits = let l = level_here in let long = is.long in let within = entry_within pool (last + 1) (omega (arith, l, same, low)) in omega (arith, long, within)

    set_old : (n given : ℕ) → IsDone pool level last n → first_of table n ≡ first_of (set table (last + 1) given) n
    set_old n given old = sym (get_or-set_other table (last + 1) n given 0 (λ at. fresh (subst (IsDone pool level last) at old)))

    set_here : (n given : ℕ) → n ≡ last + 1 → first_of (set table (last + 1) given) n ≡ given
    set_here n given at = ap (λ (m : ℕ). first_of (set table (last + 1) given) m) at ∙ get_or-set_same table (last + 1) given 0 place_fits

    one : (n : ℕ) (d : Const) → n ≡ last + 1 → constant_of pool n ≡ Some d → constant_here.0 ≡ d
    one n d at h = some_is constant_here.0 d (sym names_here ∙ ap (constant_of pool) (sym at) ∙ h)

    -- its constant has a number already
    built_known : (k : Key) (given : ℕ) → key_with (first_of table) e ≡ Some k → g k ≡ Some given → IsBuilt pool level (last + 1) (set table (last + 1) given) g
    built_known k given key has =
        let known : number_for g constant_here.0 ≡ Some given = ap (option_and_then g) (found_here ∙ key) ∙ has in
        let named = is.right.named constant_here.0 given known in
        record {
          long = length-set table (last + 1) given ∙ is.long;
          right = record {
            named = λ d m h. let r = is.right.named d m h in (r.0, done_more m (inl r.1) same);
            least = λ d m done h. elim (done_less m done) [
              | inl old ↦ is.right.least d m old h
              | inr at ↦ subst (λ (o : Option ℕ). IsSomeAnd o (λ first. first ≤ m)) (sym (ap (number_for g) (sym (one m d at h)) ∙ known)) (at_most m given at named)
            ];
            mentioned = λ q f m h mention. done_more m (inl (is.right.mentioned q f m h mention)) same;
          };
          firsts = λ n d done h. elim (done_less n done) [
            | inl old ↦ is.firsts n d old h ∙ ap (λ (f : ℕ). Some f) (set_old n given old)
            | inr at ↦ ap (number_for g) (sym (one n d at h)) ∙ known ∙ ap (λ (f : ℕ). Some f) (sym (set_here n given at))
          ];
        }
      where
        at_most : (m given : ℕ) → m ≡ last + 1 → (constant_of pool given ≡ Some constant_here.0) × IsDone pool level last given → given ≤ m
        at_most m given at (names, inl l) = let levels = same_level pool given (last + 1) constant_here.0 names names_here in let h = level_here in absurd (omega (arith, l, levels, h, same))
        at_most m given at (names, inr l) = let q = l.1 in omega (arith, q, at)

    -- it has none yet
    built_new : (k : Key) (new : Key → Option ℕ) → key_with (first_of table) e ≡ Some k → g k ≡ None → Inserts g new k (last + 1) → IsBuilt pool level (last + 1) (set table (last + 1) (last + 1)) new
    built_new k new key free inserts = record {
      long = length-set table (last + 1) (last + 1) ∙ is.long;
      right = enters_as pool (λ m. IsDone pool level last m ⊎ (m ≡ last + 1)) (IsDone pool level (last + 1)) new (λ m h. done_more m h same) (λ m c _. done_less m)
          (enters pool (IsDone pool level last) g new is.right constant_here.0 k (last + 1) fresh (found_here ∙ key) free inserts names_here);
      firsts = λ n d done h. elim (done_less n done) [
        | inl old ↦ number_kept pool (IsDone pool level last) g new is.right constant_here.0 k (last + 1) fresh (found_here ∙ key) free inserts d (first_of table n) (is.firsts n d old h) ∙ ap (λ (f : ℕ). Some f) (set_old n (last + 1) old)
        | inr at ↦ ap (number_for new) (sym (one n d at h)) ∙ number_now pool (IsDone pool level last) g new is.right constant_here.0 k (last + 1) fresh (found_here ∙ key) free inserts ∙ ap (λ (f : ℕ). Some f) (sym (set_here n (last + 1) at))
      ];
    }

    pub built_more : (k : Key) (given : ℕ) (new : Key → Option ℕ) → key_with (first_of table) e ≡ Some k → HasOrInserts g new k (last + 1) given → IsBuilt pool level (last + 1) (set table (last + 1) given) new
    built_more k given new key (inl has) = let all : g ≡ new = λ i q. sym (has.1 q) i in subst (IsBuilt pool level (last + 1) (set table (last + 1) given)) all (built_known k given key has.0)
    built_more k given new key (inr none) = subst (λ (f : ℕ). IsBuilt pool level (last + 1) (set table (last + 1) f) new) (sym none.1) (built_new k new key none.0 none.2)

    pub key_here : key_with (first_of table) e ≡ None → ⊥
    key_here none = let k = key_some (first_of table) e is_usable in let never : ◌≡◌ {A = Option Key} None (Some k.0) = sym none ∙ k.1 in absurd cc

-- the entry at a place has the number behind it
pub entry_next : (pool : List PoolEntry) (last place : ℕ) (e : PoolEntry) → last ≡ place → place < length pool → e ≡ get_or pool place e → entry_of pool (last + 1) ≡ Some e
entry_next pool last place e same within is = ap (entry_of pool) (ap (λ (m : ℕ). m + 1) same ∙ add-one place) ∙ slice_get_read pool (length pool) place e refl within is
