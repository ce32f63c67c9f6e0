-- The contents of attributes, each kind of a length that it allows.
use Rattle.std.proofs.Common.{◌≡◌, ℕ, zero, suc, ◌+◌, ◌-◌, ◌*◌, ◌/◌, ◌%◌, ◌^◌, ◌<◌, ◌≤◌, Bool, List, [], ◌∷◌, length, replicate, refl, sym, subst, ap, ◌∙◌, ◌⊎◌, inl, inr, arith}
use Rattle.std.specs.List.{AllByRecursion}
use Rattle.std.proofs.lemmas.List.{append-nil, length-replicate}
use Rattle.std.proofs.lemmas.Bool.{cases_lt}
use Rattle.wv_base.specs.declared.class_file.PoolEntry.{PoolEntry}
use Rattle.wv_room.specs.Elements.{ElementsFill}
use Rattle.wv_room.specs.Counts.{ElementsFillRoom}
use Rattle.wv_room.proofs.ElementSizes.{Reaches, reached, spelled}
use Rattle.wv_pool.specs.Entries.{number_bytes}
use Rattle.wv_code.specs.declared.raw_body.RawBody.{RawBody}
use Rattle.wv_code.specs.Content.{IsContent}
use Rattle.wv_code.specs.Reading.{content_at}
use Rattle.wv_code.proofs.ContentReads.{content_text_read}
use Rattle.wv_code.proofs.ContentAnswers.{content_is, content_again, content_least, room_of}
use Rattle.wv_frames.proofs.Readers.{ok_is}
use Rattle.wv_attr.specs.declared.mark.Mark.{Mark}
use Rattle.wv_attr.specs.Marks.{table_bytes}
use Rattle.wv_attr.specs.Groups.{pending}
use Rattle.wv_attr.specs.Layout.{lists}
use Rattle.wv_attr.proofs.Filling.{follows_fill, filled}
use Rattle.wv_class.specs.declared.raw_class.Kind.{Kind}
use Rattle.wv_class.specs.declared.raw_class.Kind.TheVariants as kinds
use Rattle.wv_class.specs.declared.raw_class.Content.{Content}
use Rattle.wv_class.specs.declared.raw_class.Content.TheVariants as contents
use Rattle.wv_class.specs.Kinds.{kind_of}
use Rattle.wv_class.specs.Layout.{numbers_bytes, SpellsLists, SpellsContent}
use Rattle.wv_class.specs.Lengths.{IsListLength, AllowsLength}
use Rattle.wv_class.specs.Contents.{SpellsSized}
use Rattle.wv_class.proofs.Grammars.{IsGrammar}
use Rattle.wv_class.proofs.Shorts.{short_value}
use Rattle.wv_class.proofs.Numbered.{numbers_same, numbers_long}
use Rattle.wv_class.proofs.Allowed.{same_length}
use Rattle.wv_class.proofs.ShallowParts.{parts_same, parts_full, parts_less}

-- ---- one content

code_same : (pool : List PoolEntry) (a b : RawBody) (t u : List ℕ) → t ≡ u → IsContent pool a t → IsContent pool b u → a ≡ b
code_same pool a b t u e s r = ap (λ (y : RawBody × List ℕ). y.0) (ok_is (a, []) (b, []) (sym (content_again pool a t s) ∙ ap (content_at pool 0) e ∙ content_again pool b u r))

lists_same : (m n : ℕ) (xs ys : List Mark) (t u : List ℕ) → t ≡ u → SpellsLists m xs t → SpellsLists n ys u → xs ≡ ys
lists_same m n xs ys [] u e a b = absurd a
lists_same m n xs ys (c ∷ t) [] e a b = absurd b
lists_same m n xs ys (c ∷ t) (d ∷ u) e a b =
    let count : c ≡ d = cc in
    let rest : t ≡ u = cc in
    parts_same (m - 1) (n - 1) (lists d) xs ys t u rest (subst (λ (k : ℕ). SpellsLists m xs (k ∷ t)) count a).1 b.1

content_same : (pool : List PoolEntry) (m n : ℕ) (x y : Content) (t u : List ℕ) → t ≡ u → kind_of x ≡ kind_of y → SpellsContent m pool x t → SpellsContent n pool y u → x ≡ y
content_same pool m n (contents.Code a) (contents.Code b) t u e k s r = ap (λ (z : RawBody). contents.Code z) (code_same pool a b t u e s r)
content_same pool m n (contents.ConstantValue a) (contents.ConstantValue b) t u e k s r =
    ap (λ (z : ℕ). contents.ConstantValue z) (short_value a b [] [] s.0 r.0 (append-nil (number_bytes a) ∙ sym s.1 ∙ e ∙ r.1 ∙ sym (append-nil (number_bytes b))))
content_same pool m n (contents.Exceptions a) (contents.Exceptions b) t u e k s r = ap (λ (z : List ℕ). contents.Exceptions z) (numbers_same a b s.0 r.0 (sym s.1 ∙ e ∙ r.1))
content_same pool m n (contents.Annotations v a) (contents.Annotations w b) t u e k s r =
    let visible : v ≡ w = cc in
    ap (λ (z : Bool). contents.Annotations z a) visible ∙ ap (λ (z : List Mark). contents.Annotations w z) (parts_same m n (lists 1) a b t u e s r)
content_same pool m n (contents.ParameterAnnotations v a) (contents.ParameterAnnotations w b) t u e k s r =
    let visible : v ≡ w = cc in
    ap (λ (z : Bool). contents.ParameterAnnotations z a) visible ∙ ap (λ (z : List Mark). contents.ParameterAnnotations w z) (lists_same m n a b t u e s r)
content_same pool m n (contents.Other a) (contents.Other b) t u e k s r = ap (λ (z : List ℕ). contents.Other z) (sym s.1 ∙ e ∙ r.1)
content_same pool m n _ _ t u e k s r = absurd cc

content_full : (pool : List PoolEntry) (near n : ℕ) (x : Content) (t : List ℕ) → length t ≤ near → SpellsContent near pool x t → SpellsContent n pool x t
content_full pool near n (contents.Code a) t le s = s
content_full pool near n (contents.ConstantValue a) t le s = s
content_full pool near n (contents.Exceptions a) t le s = s
content_full pool near n (contents.Annotations v a) t le s = parts_full near n (lists 1) a t le s
content_full pool near n (contents.ParameterAnnotations v a) [] le s = absurd s
content_full pool near n (contents.ParameterAnnotations v a) (c ∷ t) le s = (s.0, parts_full (near - 1) (n - 1) (lists c) a t (omega (arith, le)) s.1)
content_full pool near n (contents.Other a) t le s = s

content_less : (pool : List PoolEntry) (m n : ℕ) (x : Content) (t : List ℕ) → m ≤ n → SpellsContent n pool x t → SpellsContent m pool x t
content_less pool m n (contents.Code a) t le s = s
content_less pool m n (contents.ConstantValue a) t le s = s
content_less pool m n (contents.Exceptions a) t le s = s
content_less pool m n (contents.Annotations v a) t le s = parts_less m n (lists 1) a t le s
content_less pool m n (contents.ParameterAnnotations v a) [] le s = absurd s
content_less pool m n (contents.ParameterAnnotations v a) (c ∷ t) le s = (s.0, parts_less (m - 1) (n - 1) (lists c) a t (omega arith) s.1)
content_less pool m n (contents.Other a) t le s = s

-- ---- its length

-- lists, so many, and nothing else
lists_fill : (count n : ℕ) → ElementsFillRoom (pending (lists count)) n → ElementsFill 0 0 0 count n
lists_fill count n f = let same : 0 + count ≡ count = omega arith in subst (λ (k : ℕ). ElementsFill 0 0 0 k n) same f

fill_lists : (count n : ℕ) → ElementsFill 0 0 0 count n → ElementsFillRoom (pending (lists count)) n
fill_lists count n f = let same : count ≡ 0 + count = omega arith in subst (λ (k : ℕ). ElementsFill 0 0 0 k n) same f

-- as many lists as there are, and more bytes in them
list_lengths : (count n : ℕ) → ElementsFill 0 0 0 count n → 1 + n < 11 → (1 + n) % 2 ≡ 1
list_lengths count n f small = go r.more refl
  where
    r : Reaches 0 0 0 count n
    r = reached f

    go : (more : ℕ) → r.more ≡ more → (1 + n) % 2 ≡ 1
    go zero e = omega (arith, e, r.size)
    go (suc zero) e = absurd (r.takes.one e)
    go (suc (suc zero)) e = omega (arith, e, r.size)
    go (suc (suc (suc zero))) e = absurd (omega (arith, r.takes.three e))
    go (suc (suc (suc (suc zero)))) e = omega (arith, e, r.size)
    go (suc (suc (suc (suc (suc zero))))) e = absurd (omega (arith, r.takes.five e))
    go (suc (suc (suc (suc (suc (suc zero)))))) e = omega (arith, e, r.size)
    go (suc (suc (suc (suc (suc (suc (suc zero))))))) e = absurd (omega (arith, r.takes.seven e))
    go (suc (suc (suc (suc (suc (suc (suc (suc zero)))))))) e = omega (arith, e, r.size)
    go (suc (suc (suc (suc (suc (suc (suc (suc (suc zero))))))))) e = absurd (omega (arith, e, r.takes.nine e, r.size, small))
    go (suc (suc (suc (suc (suc (suc (suc (suc (suc (suc more)))))))))) e = absurd (omega (arith, e, r.size, small))

lists_length : (count n : ℕ) → ElementsFill 0 0 0 count n → ((1 + n) % 2 ≡ 1) ⊎ (11 ≤ 1 + n)
lists_length count n f = elim (cases_lt (1 + n) 11) [
  | inl small ↦ inl (list_lengths count n f small)
  | inr large ↦ inr large
]

pub content_length : (pool : List PoolEntry) (near : ℕ) (x : Content) (t : List ℕ) → SpellsContent near pool x t → AllowsLength (kind_of x) (length t)
content_length pool near (contents.Code a) t s = content_least pool a t s
content_length pool near (contents.ConstantValue a) t s = ap length s.1
content_length pool near (contents.Exceptions a) t s =
    let long : length t ≡ 2 + 2 * length a = ap length s.1 ∙ numbers_long a in
    record { even = omega (arith, long); least = omega (arith, long); most = omega (arith, long, s.0.0) }
content_length pool near (contents.Annotations v a) t s = subst IsListLength (ap length (sym s.spelled)) (follows_fill s.follows)
content_length pool near (contents.ParameterAnnotations v a) [] s = absurd s
content_length pool near (contents.ParameterAnnotations v a) (c ∷ t) s =
    let f = subst (λ (k : ℕ). ElementsFill 0 0 0 c k) (ap length (sym s.1.spelled)) (lists_fill c (length (table_bytes a)) (follows_fill s.1.follows)) in
    let long : 1 + length t ≡ length (c ∷ t) = omega arith in
    subst (λ (k : ℕ). (k % 2 ≡ 1) ⊎ (11 ≤ k)) long (lists_length c (length t) f)
content_length pool near (contents.Other a) t s = tt

-- ---- some content of each length

zeros_small : (k bound : ℕ) → 0 < bound → AllByRecursion (λ b. b < bound) (replicate k 0)
zeros_small zero bound lt = tt
zeros_small (suc k) bound lt = (lt, zeros_small k bound lt)

some_code : (pool : List PoolEntry) (n : ℕ) → 12 ≤ n → n < 2 ^ 32 → (x : RawBody) × (t : List ℕ) × IsContent pool x t × (length t ≡ n)
some_code pool n low high =
    let f = (content_text_read pool).there n (room_of n low high) in
    (f.value, f.text, content_is pool f.value f.text f.spelled, omega (arith, f.sum, f.rest.most))

some_lists : (n : ℕ) → (n % 2 ≡ 1) ⊎ (11 ≤ n) → (count : ℕ) × (count < 256) × ElementsFill 0 0 0 count (n - 1)
some_lists n is = elim (cases_lt n 14) [
  | inl small ↦ few n small is
  | inr large ↦ (
    1,
    omega arith,
    spelled (record {
      more = n - 3;
      size = omega arith;
      takes = record {
        nothing = λ e. absurd (omega arith);
        one = λ e. omega arith;
        two = λ e. absurd (omega arith);
        three = λ e. absurd (omega arith);
        four = λ e. absurd (omega arith);
        five = λ e. absurd (omega arith);
        six = λ e. absurd (omega arith);
        seven = λ e. absurd (omega arith);
        nine = λ e. absurd (omega arith);
        ten = λ e. absurd (omega arith);
      };
    }),
  )
]
  where
    -- lists with nothing in them
    empty : (count k : ℕ) → k ≡ 2 * count → ElementsFill 0 0 0 count k
    empty count k e = spelled (record {
      more = 0;
      size = omega arith;
      takes = record {
        nothing = λ e. refl;
        one = λ e. omega arith;
        two = λ e. absurd (omega arith);
        three = λ e. absurd (omega arith);
        four = λ e. absurd (omega arith);
        five = λ e. absurd (omega arith);
        six = λ e. absurd (omega arith);
        seven = λ e. absurd (omega arith);
        nine = λ e. absurd (omega arith);
        ten = λ e. absurd (omega arith);
      };
    })

    twelve : ElementsFill 0 0 0 1 11
    twelve = spelled (record {
      more = 9;
      size = refl;
      takes = record {
        nothing = λ e. absurd (omega arith);
        one = λ e. omega arith;
        two = λ e. absurd (omega arith);
        three = λ e. absurd (omega arith);
        four = λ e. absurd (omega arith);
        five = λ e. absurd (omega arith);
        six = λ e. absurd (omega arith);
        seven = λ e. absurd (omega arith);
        nine = λ e. omega arith;
        ten = λ e. absurd (omega arith);
      };
    })

    few : (n : ℕ) → n < 14 → (n % 2 ≡ 1) ⊎ (11 ≤ n) → (count : ℕ) × (count < 256) × ElementsFill 0 0 0 count (n - 1)
    few n small (inl odd) = ((n - 1) / 2, omega arith, empty ((n - 1) / 2) (n - 1) (omega arith))
    few n small (inr large) = elim (cases_lt n 12) [
      | inl eleven ↦ (5, omega arith, empty 5 (n - 1) (omega arith))
      | inr more ↦ elim (cases_lt n 13) [
        | inl is_twelve ↦ (1, omega arith, subst (λ (k : ℕ). ElementsFill 0 0 0 1 k) (omega arith) twelve)
        | inr thirteen ↦ (6, omega arith, empty 6 (n - 1) (omega arith))
      ]
    ]

pub record SomeSized (pool : List PoolEntry) (kind : Kind) (len : ℕ) : Type 0 where
  pub content : Content
  pub text : List ℕ
  pub spelled : SpellsSized pool kind len 0 content text

pub some_sized : (pool : List PoolEntry) (kind : Kind) (len : ℕ) → len < 2 ^ 32 → AllowsLength kind len → SomeSized pool kind len
some_sized pool kinds.Code len small is = let c = some_code pool len is small in record { content = contents.Code c.0; text = c.1; spelled = record { long = c.3; known = refl; is = c.2 } }
some_sized pool kinds.ConstantValue len small is = record { content = contents.ConstantValue 0; text = number_bytes 0; spelled = record { long = sym is; known = refl; is = (omega arith, refl) } }
some_sized pool kinds.Exceptions len small is =
    let k = (len - 2) / 2 in
    let numbers : List ℕ = replicate k 0 in
    let count : length numbers ≡ k = length-replicate k 0 in
    record {
      content = contents.Exceptions numbers;
      text = numbers_bytes numbers;
      spelled = record {
        long = numbers_long numbers ∙ omega (arith, count, is.even, is.least);
        known = refl;
        is = ((omega (arith, count, is.most), zeros_small k (2 ^ 16) (omega arith)), refl);
      };
    }
some_sized pool (kinds.Annotations visible) len small is =
    let f = filled (lists 1) len is in
    record { content = contents.Annotations visible f.parts; text = table_bytes f.parts; spelled = record { long = f.long; known = refl; is = record { follows = f.follows; spelled = refl } } }
some_sized pool (kinds.ParameterAnnotations visible) len small is =
    let c = some_lists len is in
    let f = filled (lists c.0) (len - 1) (fill_lists c.0 (len - 1) c.2) in
    let some : 1 ≤ len = some_length is in
    record {
      content = contents.ParameterAnnotations visible f.parts;
      text = c.0 ∷ table_bytes f.parts;
      spelled = record { long = omega (arith, f.long, some); known = refl; is = (c.1, record { follows = f.follows; spelled = refl }) };
    }
  where
    some_length : (len % 2 ≡ 1) ⊎ (11 ≤ len) → 1 ≤ len
    some_length (inl odd) = omega arith
    some_length (inr large) = omega arith
some_sized pool kinds.Other len small is = record {
  content = contents.Other (replicate len 0);
  text = replicate len 0;
  spelled = record { long = length-replicate len 0; known = refl; is = (zeros_small len 256 (omega arith), refl) };
}

pub sized_grammar : (pool : List PoolEntry) (kind : Kind) (len : ℕ) → len < 2 ^ 32 → AllowsLength kind len → IsGrammar (SpellsSized pool kind len)
sized_grammar pool kind len small is =
    let s = some_sized pool kind len small is in
    record {
      same = λ m n x y t u p q e a b.
          let one = same_length t u p q (a.long ∙ sym b.long) e in
          (content_same pool m n x y t u one (sym a.known ∙ b.known) a.is b.is, one);
      full = λ n x t a. record { long = a.long; known = a.known; is = content_full pool (length t) n x t (omega arith) a.is };
      less = λ m n x t le a. record { long = a.long; known = a.known; is = content_less pool m n x t le a.is };
      value = s.content;
      text = s.text;
      some = s.spelled;
    }
