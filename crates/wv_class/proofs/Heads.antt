-- What a class file begins with.
use Rattle.std.proofs.Common.{◌≡◌, ℕ, ◌-◌, ◌^◌, ◌<◌, List, [], ◌++◌, length, take, drop, refl, sym, ap, subst, ◌∙◌, append_assoc, inl, inr, arith}
use Rattle.std.proofs.lemmas.List.{append-nil, length-drop, take-append-drop}
use Rattle.wv_base.specs.declared.class_file.ClassVersion.{ClassVersion}
use Rattle.wv_base.specs.declared.class_file.PoolEntry.{PoolEntry}
use Rattle.wv_pool.specs.Entries.{IsLayout, number_bytes, pool_bytes}
use Rattle.wv_pool.specs.Layout.{IsLayoutFault}
use Rattle.wv_pool.specs.Reading.{pool_at}
use Rattle.wv_pool.proofs.Slots.{pool_again, ok_is}
use Rattle.wv_code.specs.Content.{length_bytes}
use Rattle.wv_class.specs.Layout.{Begins, magic}
use Rattle.wv_class.specs.Heads.{SpellsHead, SpellsPool}
use Rattle.wv_class.specs.Numbers.{SpellsShort, SpellsExactly}
use Rattle.wv_class.specs.Reading.{Taken, Stopped}
use Rattle.wv_class.proofs.Grammars.{IsGrammar, splits, Then, Was, Alike, then_grammar, was_grammar, was_takes, was_stops, alike_grammar, alike_stops, alike_takes, then_takes, first_stops, second_stops}
use Rattle.wv_class.proofs.Shorts.{short_grammar}
use Rattle.wv_class.proofs.Allowed.{allowed_grammar, one_longer}
use Rattle.wv_class.proofs.AllowedNumbers.{four_is, is_four}

-- ---- the magic number and the version

module _ (number : ℕ) (small : number < 2 ^ 32) (bytes_are : length_bytes number ≡ magic) where
  abbrev version_of : ℕ → ℕ → ClassVersion
  version_of minor major = record { major = major; minor = minor }

  abbrev Major : ℕ → ℕ → ClassVersion → List ℕ → Type 0
  Major minor = Was (version_of minor) SpellsShort

  abbrev Version : ℕ → ℕ → ClassVersion → List ℕ → Type 0
  Version magic_is = Then SpellsShort Major

  abbrev Head : ℕ → ClassVersion → List ℕ → Type 0
  Head = Then (SpellsExactly 4 number) Version

  head_to : (near : ℕ) (x : ClassVersion) (t : List ℕ) → Head near x t → SpellsHead near x t
  head_to near x t s =
      let v = s.second_is in
      let w = v.second_is in
      let front : s.front ≡ magic = (four_is (λ n. n ≡ number) near s.first s.front s.first_is).1 ∙ ap length_bytes s.first_is.allowed ∙ bytes_are in
      subst (λ (z : ClassVersion). SpellsHead near z t) (sym w.is) (record {
        minor = v.first_is.0;
        major = w.spelled.0;
        spelled = s.parts ∙ ap (λ (z : List ℕ). z ++ s.back) front ∙ ap (λ (z : List ℕ). magic ++ z) (v.parts ∙ ap (λ (z : List ℕ). z ++ v.back) v.first_is.1 ∙ ap (λ (z : List ℕ). number_bytes v.first ++ z) w.spelled.1);
      })

  head_from : (near : ℕ) (x : ClassVersion) (t : List ℕ) → SpellsHead near x t → Head near x t
  head_from near x t s = record {
    first = number;
    front = magic;
    back = number_bytes x.minor ++ number_bytes x.major;
    parts = s.spelled;
    first_is = is_four (λ n. n ≡ number) near number magic small (sym bytes_are) refl;
    second_is = record {
      first = x.minor;
      front = number_bytes x.minor;
      back = number_bytes x.major;
      parts = refl;
      first_is = (s.minor, refl);
      second_is = record { from = x.major; is = refl; spelled = (s.major, refl) };
    };
  }

  head_alike : Alike Head SpellsHead
  head_alike = record { there = head_to; back = head_from }

  major_grammar : (minor : ℕ) → IsGrammar (Major minor)
  major_grammar minor = was_grammar (version_of minor) SpellsShort short_grammar

  version_grammar : (n : ℕ) → IsGrammar (Version n)
  version_grammar n = then_grammar SpellsShort Major short_grammar (λ near minor t s. major_grammar minor)

  exact_grammar : IsGrammar (SpellsExactly 4 number)
  exact_grammar = allowed_grammar 4 (λ n. n ≡ number) number (omega (arith, small)) refl

  pub head_grammar : IsGrammar SpellsHead
  head_grammar = alike_grammar head_alike (then_grammar (SpellsExactly 4 number) Version exact_grammar (λ near n t s. version_grammar n))

  pub magic_stops : (bytes : List ℕ) (left : ℕ) → Stopped (SpellsExactly 4 number) bytes left → Stopped SpellsHead bytes left
  magic_stops bytes left s = alike_stops head_alike bytes left (first_stops (SpellsExactly 4 number) Version exact_grammar (λ near n t s. version_grammar n) bytes left s)

  pub minor_stops : (bytes : List ℕ) (n : ℕ) (rest : List ℕ) (left : ℕ) → Taken (SpellsExactly 4 number) bytes n rest → Stopped SpellsShort rest left → Stopped SpellsHead bytes left
  minor_stops bytes n rest left t s =
      alike_stops head_alike bytes left (second_stops (SpellsExactly 4 number) Version exact_grammar bytes n rest left t (first_stops SpellsShort Major short_grammar (λ near minor t s. major_grammar minor) rest left s))

  pub major_stops : (bytes : List ℕ) (n : ℕ) (rest : List ℕ) (minor : ℕ) (after : List ℕ) (left : ℕ) → Taken (SpellsExactly 4 number) bytes n rest → Taken SpellsShort rest minor after → Stopped SpellsShort after left → Stopped SpellsHead bytes left
  major_stops bytes n rest minor after left t u s =
      alike_stops head_alike bytes left (second_stops (SpellsExactly 4 number) Version exact_grammar bytes n rest left t (second_stops SpellsShort Major short_grammar rest minor after left u (was_stops (version_of minor) SpellsShort after left s)))

  pub head_takes : (bytes : List ℕ) (n : ℕ) (rest : List ℕ) (minor : ℕ) (after : List ℕ) (major : ℕ) (end : List ℕ) → Taken (SpellsExactly 4 number) bytes n rest → Taken SpellsShort rest minor after → Taken SpellsShort after major end → Taken SpellsHead bytes (version_of minor major) end
  head_takes bytes n rest minor after major end t u v =
      alike_takes head_alike bytes (version_of minor major) end (then_takes (SpellsExactly 4 number) Version exact_grammar bytes n rest (version_of minor major) end t (then_takes SpellsShort Major short_grammar rest minor after (version_of minor major) end u (was_takes (version_of minor) SpellsShort after major end v)))

abbrev pub magic_number : ℕ
magic_number = 3405691582

pub magic_small : magic_number < 2 ^ 32
magic_small = omega arith

pub magic_is : length_bytes magic_number ≡ magic
magic_is = refl

-- ---- the pool

one_pool : (x y : List PoolEntry) (p q : List ℕ) → IsLayout x → IsLayout y → pool_bytes x ++ p ≡ pool_bytes y ++ q → x ≡ y
one_pool x y p q a b e = ap (λ (z : List PoolEntry × List ℕ). z.0) (ok_is (x, p) (y, q) (sym (pool_again x p a) ∙ ap pool_at e ∙ pool_again y q b))

pub pool_grammar : IsGrammar SpellsPool
pool_grammar = record {
  same = λ m n x y t u p q e a b.
      let v = one_pool x y p q a.layout b.layout (ap (λ (z : List ℕ). z ++ p) (sym a.spelled) ∙ e ∙ ap (λ (z : List ℕ). z ++ q) b.spelled) in
      (v, a.spelled ∙ ap pool_bytes v ∙ sym b.spelled);
  full = λ n x t a. record { layout = a.layout; spelled = a.spelled };
  less = λ m n x t le a. record { layout = a.layout; spelled = a.spelled };
  value = [];
  text = pool_bytes [];
  some = record { layout = (omega arith, refl); spelled = refl };
}

module _ (bytes : List ℕ) (at : ℕ) (f : IsLayoutFault bytes at) where
  pool_begun : (more : List ℕ) (pool : List PoolEntry) (rest : List ℕ) → IsLayout pool → take at bytes ++ more ≡ pool_bytes pool ++ rest → Begins SpellsPool (take at bytes)
  pool_begun more pool rest is e = elim (splits (take at bytes) more (pool_bytes pool) rest e) [
    | inl i ↦
        let whole : bytes ≡ pool_bytes pool ++ (i.more ++ drop at bytes) = sym (take-append-drop at bytes) ∙ ap (λ (z : List ℕ). z ++ drop at bytes) i.front_is ∙ append_assoc (pool_bytes pool) i.more (drop at bytes) in
        absurd (f.no_pool (pool, i.more ++ drop at bytes, is, whole))
    | inr i ↦ record { value = pool; more = i.more; spelled = record { layout = is; spelled = sym i.front_is } }
  ]

  pub pool_stopped : Stopped SpellsPool bytes (length bytes - at)
  pool_stopped = record {
    front = take at bytes;
    back = drop at bytes;
    parts = sym (take-append-drop at bytes);
    place = sym (length-drop at bytes);
    begun = let b = f.begins at (omega arith) in pool_begun b.0 b.1.0 b.1.1 b.1.2 b.1.3;
    none = λ b others e begins.
        let s = begins.spelled in
        let longer = one_longer bytes at b others f.within e in
        f.none (omega (arith, ap length e, length-drop at bytes))
        (begins.more, (begins.value, [], s.layout, ap (λ (z : List ℕ). z ++ begins.more) longer ∙ s.spelled ∙ sym (append-nil (pool_bytes begins.value))));
    no_item = λ value text rest e s. f.no_pool (value, rest, s.layout, e ∙ ap (λ (z : List ℕ). z ++ rest) s.spelled);
  }
