-- What a pool lacks of the constants that are added, one after the other.
use Rattle.std.proofs.Common.{◌≡◌, ℕ, ◌+◌, ◌<◌, List, [], ◌∷◌, ◌++◌, length, Some, Result, Ok, Err, refl, sym, ap, subst, ◌∙◌, ◌⊎◌, inl, inr, arith}
use Rattle.std.specs.Prelude.{IsErrAnd, IfOk, IfErr}
use Rattle.std.specs.List.{AllByRecursion}
use Rattle.std.proofs.lemmas.List.{length-append, append_assoc, append-nil}
use Rattle.wv_base.specs.declared.class_file.PoolEntry.{PoolEntry}
use Rattle.wv_base.specs.declared.constant.Const.{Const}
use Rattle.wv_pool.specs.declared.add.PoolFault.{PoolFault}
use Rattle.wv_pool.specs.declared.add.PoolFault.TheVariants as faults
use Rattle.wv_pool.specs.References.{IsSound}
use Rattle.wv_pool.specs.Constants.{constant_in, constant_of}
use Rattle.wv_pool.specs.Numbers.{IsLeast, Named}
use Rattle.wv_pool.specs.Adding.{slots_of, numbers_of, IsAmong, Lacks, none, named, again, lacked, AreTooMany, Keeps, Grows, Adds}
use Rattle.wv_pool.proofs.Behind.{some_is, slots_numbers}
use Rattle.wv_pool.proofs.Growing.{constant_grows}
use Rattle.wv_pool.proofs.SoundPools.{constant_back}
use Rattle.wv_pool.proofs.Putting.{own_number, new_number}

-- One constant is put into a pool as this entry: a number of its own comes last, where none names it yet and there is room.
abbrev pub Puts : List PoolEntry → List PoolEntry → Const → PoolEntry → Result ℕ PoolFault → Type 0
Puts old new c entry (Ok n) = IsLeast new c n × ((Named old c × (new ≡ old)) ⊎ ((Named old c → ⊥) × (new ≡ old ++ slots_of entry)))
Puts old new c entry (Err faults.Full) = (Named old c → ⊥) × (65535 < length old + 1 + length (slots_of entry)) × (new ≡ old)
Puts old new c entry (Err faults.Memory) = new ≡ old

among_named : (pool : List PoolEntry) (cs : List Const) (c : Const) → AllByRecursion (Named pool) cs → IsAmong cs c → Named pool c
among_named pool [] c all h = absurd h
among_named pool (d ∷ cs) c all (inl e) = subst (Named pool) e all.0
among_named pool (d ∷ cs) c all (inr h) = among_named pool cs c all.1 h

named_grows : (pool more now : List PoolEntry) (c : Const) → now ≡ pool ++ more → Named pool c → Named now c
named_grows pool more now c longer (n, h) = (n, subst (λ (p : List PoolEntry). constant_of p n ≡ Some c) (sym longer) (constant_grows pool more n c h))

all_grows : (pool more now : List PoolEntry) (cs : List Const) → now ≡ pool ++ more → AllByRecursion (Named pool) cs → AllByRecursion (Named now) cs
all_grows pool more now [] longer all = tt
all_grows pool more now (c ∷ cs) longer all = (named_grows pool more now c longer all.0, all_grows pool more now cs longer all.1)

keeps_same : (old new : List PoolEntry) → new ≡ old → Keeps old new
keeps_same old new same = ([], same ∙ sym (append-nil old))

pub keeps_then : (a b d : List PoolEntry) → Keeps a b → Keeps b d → Keeps a d
keeps_then a b d (m, ab) (n, bd) = (m ++ n, bd ∙ ap (λ (p : List PoolEntry). p ++ n) ab ∙ append_assoc a m n)

-- ---- one constant

module _ (now new : List PoolEntry) (e : PoolEntry) (c : Const) (sound : AllByRecursion (IsSound now) now) (is : constant_in now e ≡ Some c) where
  lacks_new : (pool : List PoolEntry) (before : List Const) (g : Grows pool before now) → (Named now c → ⊥) → Lacks pool (c ∷ before) (numbers_of c + length g.more)
  lacks_new pool before g unnamed = lacked (λ h. unnamed (named_grows pool g.more now c g.longer h)) (λ h. unnamed (among_named now before c g.all h)) g.lacks

  grows_named : (pool : List PoolEntry) (before : List Const) → Grows pool before now → Named now c → Grows pool (c ∷ before) now
  grows_named pool before g there = record {
    more = g.more;
    longer = g.longer;
    lacks = elim (g.only c there) [
      | inl old ↦ named old g.lacks
      | inr among ↦ again among g.lacks
    ];
    all = (there, g.all);
    only = λ d h. elim (g.only d h) [
      | inl old ↦ inl old
      | inr among ↦ inr (inr among)
    ];
  }

  grows_new : (pool : List PoolEntry) (before : List Const) → Grows pool before now → (Named now c → ⊥) → new ≡ now ++ slots_of e → Grows pool (c ∷ before) new
  grows_new pool before g unnamed longer = record {
    more = g.more ++ slots_of e;
    longer = longer ∙ ap (λ (p : List PoolEntry). p ++ slots_of e) g.longer ∙ append_assoc pool g.more (slots_of e);
    lacks = subst (Lacks pool (c ∷ before)) (omega (arith, length-append g.more (slots_of e), slots_numbers now e c is)) (lacks_new pool before g unnamed);
    all = ((length now + 1, subst (λ (p : List PoolEntry). constant_of p (length now + 1) ≡ Some c) (sym longer) (own_number now e c is)), all_grows now (slots_of e) new before longer g.all);
    only = λ d h. only d (h.0, subst (λ (p : List PoolEntry). constant_of p h.0 ≡ Some d) longer h.1);
  }
    where
      only : (d : Const) → Named (now ++ slots_of e) d → Named pool d ⊎ IsAmong (c ∷ before) d
      only d (m, h) = elim (new_number now e m d h) [
        | inl le ↦ elim (g.only d (m, constant_back now (slots_of e) m d sound le h)) [
          | inl old ↦ inl old
          | inr among ↦ inr (inr among)
        ]
        | inr own ↦ inr (inl (some_is c d (sym (own_number now e c is) ∙ ap (constant_of (now ++ slots_of e)) (sym own) ∙ h)))
      ]

  too_many : (pool : List PoolEntry) (before : List Const) → Grows pool before now → (Named now c → ⊥) → 65535 < length now + 1 + length (slots_of e) → AreTooMany pool (c ∷ before)
  too_many pool before g unnamed passes = record {
    before = [];
    last = c ∷ before;
    more = numbers_of c + length g.more;
    parts = refl;
    lacks = lacks_new pool before g unnamed;
    passes = omega (arith, passes, ap length g.longer, length-append pool g.more, slots_numbers now e c is);
  }

  pub put_adds : (r : Result ℕ PoolFault) → Puts now new c e r → Adds now new (c ∷ []) c r
  put_adds (Ok n) (least, inl same) = (keeps_same now new same.1, least, λ pool before g. subst (Grows pool (c ∷ before)) (sym same.1) (grows_named pool before g same.0))
  put_adds (Ok n) (least, inr more) = ((slots_of e, more.1), least, λ pool before g. grows_new pool before g more.0 more.1)
  put_adds (Err faults.Full) p = (keeps_same now new p.2, λ pool before g. too_many pool before g p.0 p.1)
  put_adds (Err faults.Memory) p = keeps_same now new p

-- ---- one after the other

pub adds_keeps : (old new : List PoolEntry) (cs : List Const) (c : Const) (r : Result ℕ PoolFault) → Adds old new cs c r → Keeps old new
adds_keeps old new cs c (Ok n) h = h.0
adds_keeps old new cs c (Err faults.Full) h = h.0
adds_keeps old new cs c (Err faults.Memory) h = h

pub adds_then : (a b d : List PoolEntry) (xs ys : List Const) (c c' : Const) (n : ℕ) (r : Result ℕ PoolFault) → Adds a b xs c (Ok n) → Adds b d ys c' r → Adds a d (ys ++ xs) c' r
adds_then a b d xs ys c c' n (Ok m) h k = (keeps_then a b d h.0 k.0, k.1, λ pool before g. subst (λ (cs : List Const). Grows pool cs d) (sym (append_assoc ys xs before)) (k.2 pool (xs ++ before) (h.2 pool before g)))
adds_then a b d xs ys c c' n (Err faults.Full) h k = (keeps_then a b d h.0 k.0, λ pool before g. subst (AreTooMany pool) (sym (append_assoc ys xs before)) (k.1 pool (xs ++ before) (h.2 pool before g)))
adds_then a b d xs ys c c' n (Err faults.Memory) h k = keeps_then a b d h.0 k

-- what one of the constants met, they all meet
adds_err : (old new : List PoolEntry) (xs cs : List Const) (c c' : Const) (e : PoolFault) → Adds old new cs c (Err e) → Adds old new (xs ++ cs) c' (Err e)
adds_err old new xs cs c c' faults.Full h = (h.0, λ pool before g. more pool before (h.1 pool before g))
  where
    more : (pool : List PoolEntry) (before : List Const) → AreTooMany pool (cs ++ before) → AreTooMany pool ((xs ++ cs) ++ before)
    more pool before t = record {
      before = xs ++ t.before;
      last = t.last;
      more = t.more;
      parts = append_assoc xs cs before ∙ ap (λ (ds : List Const). xs ++ ds) t.parts ∙ sym (append_assoc xs t.before t.last);
      lacks = t.lacks;
      passes = t.passes;
    }
adds_err old new xs cs c c' faults.Memory h = h

err_is : (r : Result ℕ PoolFault) (e : PoolFault) → IsErrAnd r (λ x. x ≡ e) → r ≡ Err e
err_is (Ok n) e h = absurd h
err_is (Err x) e h = ap (λ (y : PoolFault). Err y) h

-- the fault of a part is that of the whole
pub adds_failed : (old new : List PoolEntry) (xs cs : List Const) (c c' : Const) (e : PoolFault) (r : Result ℕ PoolFault) → IsErrAnd r (λ x. x ≡ e) → Adds old new cs c (Err e) → Adds old new (xs ++ cs) c' r
adds_failed old new xs cs c c' e r given h = subst (λ (s : Result ℕ PoolFault). Adds old new (xs ++ cs) c' s) (sym (err_is r e given)) (adds_err old new xs cs c c' e h)

-- what a number names after more was added
pub later : (a b : List PoolEntry) (n : ℕ) (c : Const) → Keeps a b → constant_of a n ≡ Some c → constant_of b n ≡ Some c
later a b n c (more, longer) h = subst (λ (p : List PoolEntry). constant_of p n ≡ Some c) (sym longer) (constant_grows a more n c h)

-- a pool that was there
pub grows_start : (pool : List PoolEntry) → Grows pool [] pool
grows_start pool = record {
  more = [];
  longer = sym (append-nil pool);
  lacks = none;
  all = tt;
  only = λ c h. inl h;
}

-- what the pool has become of one that was there
pub grown : (old new : List PoolEntry) (cs : List Const) (c : Const) (r : Result ℕ PoolFault) → Adds old new cs c r → IfOk r (λ n. Named old c ⊎ Grows old cs new)
grown old new cs c (Ok n) h = inr (subst (λ (ds : List Const). Grows old ds new) (append-nil cs) (h.2 old [] (grows_start old)))
grown old new cs c (Err e) h = tt

pub passed : (old new : List PoolEntry) (cs : List Const) (c : Const) (r : Result ℕ PoolFault) → Adds old new cs c r → IfErr r (λ e. e ≡ faults.Full → AreTooMany old cs)
passed old new cs c (Ok n) h = tt
passed old new cs c (Err faults.Full) h = λ _. subst (AreTooMany old) (append-nil cs) (h.1 old [] (grows_start old))
passed old new cs c (Err faults.Memory) h = λ same. absurd cc
