-- Whole class files.
use Rattle.std.proofs.Common.{◌≡◌, ℕ, ◌+◌, ◌-◌, ◌<◌, ◌≤◌, List, [], ◌∷◌, ◌++◌, length, take, refl, sym, ap, subst, ◌∙◌, append_assoc, arith}
use Rattle.std.proofs.lemmas.List.{append-nil, length-append, length-take, nil_from_length, take_at}
use Rattle.std.proofs.Math.Seq.{take-append-add}
use Rattle.wv_base.specs.declared.class_file.ClassVersion.{ClassVersion}
use Rattle.wv_base.specs.declared.class_file.PoolEntry.{PoolEntry}
use Rattle.wv_pool.specs.Entries.{pool_bytes}
use Rattle.wv_class.specs.declared.raw_class.RawRest.{RawRest}
use Rattle.wv_class.specs.declared.raw_class.RawClass.{RawClass}
use Rattle.wv_class.specs.Layout.{Begins, SpellsRest, SpellsClass, IsClass, IsLayoutFault, head_bytes}
use Rattle.wv_class.specs.Heads.{SpellsHead, SpellsPool}
use Rattle.wv_class.specs.Reading.{Taken, Stopped}
use Rattle.wv_class.proofs.Grammars.{IsGrammar, Then, Was, Alike, then_grammar, was_grammar, was_takes, was_stops, alike_grammar, alike_stops, alike_takes, then_takes, first_stops, second_stops}
use Rattle.wv_class.proofs.Heads.{magic_number, magic_small, magic_is, head_grammar, pool_grammar}
use Rattle.wv_class.proofs.ClassTexts.{rest_grammar}

abbrev class_of : ClassVersion → List PoolEntry → RawRest → RawClass
class_of version pool rest = record { version = version; pool = pool; rest = rest }

abbrev BehindPool : ClassVersion → List PoolEntry → ℕ → RawClass → List ℕ → Type 0
BehindPool version pool = Was (class_of version pool) (SpellsRest pool)

abbrev BehindHead : ClassVersion → ℕ → RawClass → List ℕ → Type 0
BehindHead version = Then SpellsPool (BehindPool version)

abbrev Class : ℕ → RawClass → List ℕ → Type 0
Class = Then SpellsHead BehindHead

class_to : (near : ℕ) (x : RawClass) (t : List ℕ) → Class near x t → SpellsClass near x t
class_to near x t s =
    let h = s.first_is in
    let p = s.second_is in
    let w = p.second_is in
    let l = p.first_is in
    let nearer : near - length s.front - length p.front ≡ near - 8 - length (pool_bytes p.first) = omega (arith, ap length h.spelled, ap length l.spelled) in
    subst (λ (z : RawClass). SpellsClass near z t) (sym w.is) (record {
      minor = h.minor;
      major = h.major;
      pool = l.layout;
      rest = p.back;
      rest_is = subst (λ (k : ℕ). SpellsRest p.first k w.from p.back) nearer w.spelled;
      spelled = s.parts ∙ ap (λ (z : List ℕ). z ++ s.back) h.spelled ∙ ap (λ (z : List ℕ). head_bytes (class_of s.first p.first w.from) ++ z) (p.parts ∙ ap (λ (z : List ℕ). z ++ p.back) l.spelled);
    })

class_from : (near : ℕ) (x : RawClass) (t : List ℕ) → SpellsClass near x t → Class near x t
class_from near x t s = record {
  first = x.version;
  front = head_bytes x;
  back = pool_bytes x.pool ++ s.rest;
  parts = s.spelled;
  first_is = record { minor = s.minor; major = s.major; spelled = refl };
  second_is = record {
    first = x.pool;
    front = pool_bytes x.pool;
    back = s.rest;
    parts = refl;
    first_is = record { layout = s.pool; spelled = refl };
    second_is = record { from = x.rest; is = refl; spelled = s.rest_is };
  };
}

class_alike : Alike Class SpellsClass
class_alike = record { there = class_to; back = class_from }

version_grammar : IsGrammar SpellsHead
version_grammar = head_grammar magic_number magic_small magic_is

behind_pool : (version : ClassVersion) (pool : List PoolEntry) → IsGrammar (BehindPool version pool)
behind_pool version pool = was_grammar (class_of version pool) (SpellsRest pool) (rest_grammar pool)

behind_head : (version : ClassVersion) → IsGrammar (BehindHead version)
behind_head version = then_grammar SpellsPool (BehindPool version) pool_grammar (λ near pool t s. behind_pool version pool)

class_grammar : IsGrammar SpellsClass
class_grammar = alike_grammar class_alike (then_grammar SpellsHead BehindHead version_grammar (λ near version t s. behind_head version))

-- Bytes are one class file at most.
pub one_layout : (c d : RawClass) (bytes : List ℕ) → IsClass c bytes → IsClass d bytes → c ≡ d
one_layout c d bytes a b = (class_grammar.same (length bytes) (length bytes) c d bytes bytes [] [] refl a b).0

-- ---- reading it

pub head_stops : (bytes : List ℕ) (left : ℕ) → Stopped SpellsHead bytes left → Stopped SpellsClass bytes left
head_stops bytes left s = alike_stops class_alike bytes left (first_stops SpellsHead BehindHead version_grammar (λ near version t s. behind_head version) bytes left s)

module _ (bytes : List ℕ) (version : ClassVersion) (at_pool : List ℕ) (taken_head : Taken SpellsHead bytes version at_pool) where
  pub pool_stops : (left : ℕ) → Stopped SpellsPool at_pool left → Stopped SpellsClass bytes left
  pool_stops left s =
      alike_stops class_alike bytes left (second_stops SpellsHead BehindHead version_grammar bytes version at_pool left taken_head (first_stops SpellsPool (BehindPool version) pool_grammar (λ near pool t s. behind_pool version pool) at_pool left s))

  module _ (pool : List PoolEntry) (at_rest : List ℕ) (taken_pool : Taken SpellsPool at_pool pool at_rest) where
    pub rest_stops : (left : ℕ) → Stopped (SpellsRest pool) at_rest left → Stopped SpellsClass bytes left
    rest_stops left s =
        alike_stops class_alike bytes left (second_stops SpellsHead BehindHead version_grammar bytes version at_pool left taken_head (second_stops SpellsPool (BehindPool version) pool_grammar at_pool pool at_rest left taken_pool (was_stops (class_of version pool) (SpellsRest pool) at_rest left s)))

    pub class_takes : (rest : RawRest) (end : List ℕ) → Taken (SpellsRest pool) at_rest rest end → Taken SpellsClass bytes (class_of version pool rest) end
    class_takes rest end t =
        let value = class_of version pool rest in
        alike_takes class_alike bytes value end (then_takes SpellsHead BehindHead version_grammar bytes version at_pool value end taken_head (then_takes SpellsPool (BehindPool version) pool_grammar at_pool pool at_rest value end taken_pool (was_takes (class_of version pool) (SpellsRest pool) at_rest rest end t)))

    -- the place behind the pool
    pub place_is : length bytes ≡ (8 + length (pool_bytes pool)) + length at_rest
    place_is =
        let h = taken_head.spelled in
        let p = taken_pool.spelled in
        omega (arith, ap length taken_head.parts, length-append taken_head.text at_pool, ap length h.spelled, ap length taken_pool.parts, length-append taken_pool.text at_rest, ap length p.spelled)

-- ---- the whole input

module _ (bytes : List ℕ) where
  whole_text : (c : RawClass) (rest : List ℕ) (t : Taken SpellsClass bytes c rest) (d : RawClass) → IsClass d bytes → (c ≡ d) × (t.text ≡ bytes)
  whole_text c rest t d is = class_grammar.same (length t.text) (length bytes) c d t.text bytes rest [] (sym t.parts ∙ sym (append-nil bytes)) t.spelled is

  pub whole_is : (c : RawClass) (rest : List ℕ) → length rest ≡ 0 → Taken SpellsClass bytes c rest → IsClass c bytes
  whole_is c rest none t =
      let same : t.text ≡ bytes = sym (append-nil t.text) ∙ ap (λ (z : List ℕ). t.text ++ z) (sym (nil_from_length rest none)) ∙ sym t.parts in
      subst (λ (z : List ℕ). SpellsClass (length z) c z) same t.spelled

  pub none_whole : (c : RawClass) (rest : List ℕ) → 0 < length rest → Taken SpellsClass bytes c rest → (d : RawClass) → IsClass d bytes → ⊥
  none_whole c rest some t d is = let w = whole_text c rest t d is in absurd (omega (arith, ap length t.parts, length-append t.text rest, ap length w.1))

  pub none_stopped : (left : ℕ) → Stopped SpellsClass bytes left → (d : RawClass) → IsClass d bytes → ⊥
  none_stopped left s d is = s.no_item d bytes [] (sym (append-nil bytes)) is

  -- bytes behind the class file
  pub more_fault : (c : RawClass) (rest : List ℕ) → 0 < length rest → Taken SpellsClass bytes c rest → IsLayoutFault bytes (length bytes - length rest)
  more_fault c rest some t =
      let sum : length bytes ≡ length t.text + length rest = ap length t.parts ∙ length-append t.text rest in
      let place : length t.text ≡ length bytes - length rest = omega (arith, sum) in
      let front : take (length bytes - length rest) bytes ≡ t.text = ap (take (length bytes - length rest)) t.parts ∙ take_at t.text rest (length bytes - length rest) place in
      record {
        within = omega arith;
        begun = subst (Begins SpellsClass) (sym front) (record { value = c; more = []; spelled = subst (λ (z : List ℕ). SpellsClass (length t.text) c z) (sym (append-nil t.text)) t.spelled });
        none = λ lt b. none b;
        no_class = λ d is. none_whole c rest some t d is;
      }
    where
      none : Begins SpellsClass (take (length bytes - length rest + 1) bytes) → ⊥
      none b =
          let sum : length bytes ≡ length t.text + length rest = ap length t.parts ∙ length-append t.text rest in
          let longer = take (length bytes - length rest + 1) bytes in
          let front : longer ≡ t.text ++ take 1 rest = ap (λ (k : ℕ). take k bytes) (omega (arith, sum)) ∙ ap (take (length t.text + 1)) t.parts ∙ take-append-add t.text rest 1 in
          let whole : (longer ++ b.more) ++ [] ≡ t.text ++ (take 1 rest ++ b.more) = append-nil (longer ++ b.more) ∙ ap (λ (z : List ℕ). z ++ b.more) front ∙ append_assoc t.text (take 1 rest) b.more in
          let same = class_grammar.same (length longer) (length t.text) b.value c (longer ++ b.more) t.text [] (take 1 rest ++ b.more) whole b.spelled t.spelled in
          absurd (omega (arith, ap length same.1, length-append longer b.more, ap length front, length-append t.text (take 1 rest), length-take 1 rest, some))

  -- a place where no class file goes on
  pub stopped_fault : (left : ℕ) → Stopped SpellsClass bytes left → (left ≤ length bytes) × IsLayoutFault bytes (length bytes - left)
  stopped_fault left s =
      let sum : length bytes ≡ length s.front + length s.back = ap length s.parts ∙ length-append s.front s.back in
      let place : length s.front ≡ length bytes - left = omega (arith, sum, s.place) in
      let front : take (length bytes - left) bytes ≡ s.front = ap (take (length bytes - left)) s.parts ∙ take_at s.front s.back (length bytes - left) place in (
        omega (arith, sum, s.place),
        record {
          within = omega arith;
          begun = subst (Begins SpellsClass) (sym front) s.begun;
          none = λ lt b. none s.back refl lt b;
          no_class = λ d is. none_stopped left s d is;
        },
      )
    where
      none : (back : List ℕ) → s.back ≡ back → length bytes - left < length bytes → Begins SpellsClass (take (length bytes - left + 1) bytes) → ⊥
      none [] e lt b = absurd (omega (arith, ap length s.parts, length-append s.front s.back, s.place, ap length e, lt))
      none (byte ∷ others) e lt b =
          let sum : length bytes ≡ length s.front + length s.back = ap length s.parts ∙ length-append s.front s.back in
          let parts : bytes ≡ (s.front ++ byte ∷ []) ++ others = s.parts ∙ ap (λ (z : List ℕ). s.front ++ z) e ∙ sym (append_assoc s.front (byte ∷ []) others) in
          let place : length (s.front ++ byte ∷ []) ≡ length bytes - left + 1 = length-append s.front (byte ∷ []) ∙ omega (arith, sum, s.place, lt) in
          let front : take (length bytes - left + 1) bytes ≡ s.front ++ byte ∷ [] = ap (take (length bytes - left + 1)) parts ∙ take_at (s.front ++ byte ∷ []) others (length bytes - left + 1) place in
          s.none byte others e (subst (Begins SpellsClass) front b)
