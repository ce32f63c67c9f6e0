-- What a pool becomes by several additions, one after the other.
use Rattle.std.proofs.Common.{◌≡◌, ℕ, ◌+◌, List, [], ◌∷◌, ◌++◌, length, Some, sym, ap, subst, ◌∙◌, ◌⊎◌, inl, inr, arith, append_assoc, Result, Ok, Err, IfOk}
use Rattle.std.specs.List.{AllByRecursion}
use Rattle.std.proofs.lemmas.List.{append-nil, length-append}
use Rattle.wv_base.specs.declared.class_file.PoolEntry.{PoolEntry}
use Rattle.wv_base.specs.declared.constant.Const.{Const}
use Rattle.wv_pool.specs.References.{text_of}
use Rattle.wv_pool.specs.Constants.{constant_of}
use Rattle.wv_pool.specs.Numbers.{Named}
use Rattle.wv_pool.specs.Adding.{needs, IsAmong, Lacks, none, named, again, lacked, AreTooMany, Keeps, Grows}
use Rattle.wv_pool.proofs.Growing.{constant_grows, text_grows}

-- ---- additions

among_all : (pool : List PoolEntry) (cs : List Const) (c : Const) → AllByRecursion (Named pool) cs → IsAmong cs c → Named pool c
among_all pool [] c all h = absurd h
among_all pool (d ∷ cs) c all (inl e) = subst (Named pool) e all.0
among_all pool (d ∷ cs) c all (inr h) = among_all pool cs c all.1 h

among_left : (xs ys : List Const) (c : Const) → IsAmong xs c → IsAmong (xs ++ ys) c
among_left [] ys c h = absurd h
among_left (x ∷ xs) ys c (inl e) = inl e
among_left (x ∷ xs) ys c (inr h) = inr (among_left xs ys c h)

among_right : (xs ys : List Const) (c : Const) → IsAmong ys c → IsAmong (xs ++ ys) c
among_right [] ys c h = h
among_right (x ∷ xs) ys c h = inr (among_right xs ys c h)

among_either : (xs ys : List Const) (c : Const) → IsAmong (xs ++ ys) c → IsAmong xs c ⊎ IsAmong ys c
among_either [] ys c h = inr h
among_either (x ∷ xs) ys c (inl e) = inl (inl e)
among_either (x ∷ xs) ys c (inr h) = elim (among_either xs ys c h) [ inl a ↦ inl (inr a) | inr b ↦ inr b ]

all_append : (P : Const → Type 0) (xs ys : List Const) → AllByRecursion P xs → AllByRecursion P ys → AllByRecursion P (xs ++ ys)
all_append P [] ys a b = b
all_append P (x ∷ xs) ys a b = (a.0, all_append P xs ys a.1 b)

still_named : (old new more : List PoolEntry) (c : Const) → new ≡ old ++ more → Named old c → Named new c
still_named old new more c longer (n, h) = (n, subst (λ (p : List PoolEntry). constant_of p n ≡ Some c) (sym longer) (constant_grows old more n c h))

all_still : (old new more : List PoolEntry) (cs : List Const) → new ≡ old ++ more → AllByRecursion (Named old) cs → AllByRecursion (Named new) cs
all_still old new more [] longer all = tt
all_still old new more (c ∷ cs) longer all = (still_named old new more c longer all.0, all_still old new more cs longer all.1)

-- what the second pool lacks, the first lacks besides what it was given
lacks_then : (a b : List PoolEntry) (xs ys : List Const) (n : ℕ) (g : Grows a xs b) → Lacks b ys n → Lacks a (ys ++ xs) (n + length g.more)
lacks_then a b xs [] n g none = subst (Lacks a xs) (omega arith) g.lacks
lacks_then a b xs (c ∷ cs) n g (named h l) = elim (g.only c h) [
  | inl old ↦ named old (lacks_then a b xs cs n g l)
  | inr among ↦ again (among_right cs xs c among) (lacks_then a b xs cs n g l)
]
lacks_then a b xs (c ∷ cs) n g (again h l) = again (among_left cs xs c h) (lacks_then a b xs cs n g l)
lacks_then a b xs (c ∷ cs) n g (lacked {n = m} unnamed alone l) =
    subst (Lacks a (c ∷ (cs ++ xs))) (omega arith)
    (lacked (λ h. unnamed (still_named a b g.more c g.longer h)) (λ h. not_among h) (lacks_then a b xs cs m g l))
  where
    not_among : IsAmong (cs ++ xs) c → ⊥
    not_among h = elim (among_either cs xs c h) [ inl first ↦ alone first | inr second ↦ unnamed (among_all b xs c g.all second) ]

pub grows_then : (a b d : List PoolEntry) (xs ys : List Const) → Grows a xs b → Grows b ys d → Grows a (ys ++ xs) d
grows_then a b d xs ys g h = record {
  more = g.more ++ h.more;
  longer = h.longer ∙ ap (λ (p : List PoolEntry). p ++ h.more) g.longer ∙ append_assoc a g.more h.more;
  lacks = subst (Lacks a (ys ++ xs)) (omega (arith, length-append g.more h.more)) (lacks_then a b xs ys (length h.more) g h.lacks);
  all = all_append (Named d) ys xs h.all (all_still b d h.more xs h.longer g.all);
  only = λ c there. only c there;
}
  where
    only : (c : Const) → Named d c → Named a c ⊎ IsAmong (ys ++ xs) c
    only c there = elim (h.only c there) [
      | inl before ↦ elim (g.only c before) [ inl old ↦ inl old | inr among ↦ inr (among_right ys xs c among) ]
      | inr among ↦ inr (among_left ys xs c among)
    ]

pub too_many_then : (a b : List PoolEntry) (xs ys : List Const) → Grows a xs b → AreTooMany b ys → AreTooMany a (ys ++ xs)
too_many_then a b xs ys g t = record {
  before = t.before;
  last = t.last ++ xs;
  more = t.more + length g.more;
  parts = ap (λ (cs : List Const). cs ++ xs) t.parts ∙ append_assoc t.before t.last xs;
  lacks = lacks_then a b xs t.last t.more g t.lacks;
  passes = omega (arith, t.passes, ap length g.longer, length-append a g.more);
}

pub too_many_more : (a : List PoolEntry) (xs cs : List Const) → AreTooMany a cs → AreTooMany a (xs ++ cs)
too_many_more a xs cs t = record { before = xs ++ t.before; last = t.last; more = t.more; parts = ap (λ (ds : List Const). xs ++ ds) t.parts ∙ sym (append_assoc xs t.before t.last); lacks = t.lacks; passes = t.passes }

-- a constant that needs no other was added, or a number named it
pub constant_added : (old new : List PoolEntry) (c : Const) → (Named old c → new ≡ old) → Named old c ⊎ Grows old (needs c) new → needs c ≡ c ∷ [] → Grows old (needs c) new
constant_added old new c same (inl there) alone =
    subst (λ (p : List PoolEntry). Grows old (needs c) p) (sym (same there)) (subst (λ (cs : List Const). Grows old cs old) (sym alone) (record {
      more = [];
      longer = sym (append-nil old);
      lacks = named there none;
      all = (there, tt);
      only = λ d h. inl h;
    }))
constant_added old new c same (inr g) alone = g

pub text_kept : (old new : List PoolEntry) (n : ℕ) (x : List ℕ) → Keeps old new → text_of old n ≡ Some x → text_of new n ≡ Some x
text_kept old new n x (more, longer) h = subst (λ (p : List PoolEntry). text_of p n ≡ Some x) (sym longer) (text_grows old more n x h)

pub found_map : {X E : Type 0} {P Q : X → Type 0} (r : Result X E) → ((x : X) → P x → Q x) → IfOk r P → IfOk r Q
found_map (Ok x) f h = f x h
found_map (Err e) f h = tt

pub found_both : {X E : Type 0} {P Q R : X → Type 0} (r : Result X E) → ((x : X) → P x → Q x → R x) → IfOk r P → IfOk r Q → IfOk r R
found_both (Ok x) f h k = f x h k
found_both (Err e) f h k = tt
