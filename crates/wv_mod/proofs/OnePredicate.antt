-- A text spells one predicate.
use Rattle.std.proofs.Common.{◌≡◌, inl, inr, ℕ, ◌<◌, ◌≤◌, List, [], ◌∷◌, ◌++◌, length, length-append, Some, None, codes, refl, ap, sym, ◌∙◌, subst, arith}
use Rattle.std.specs.List.{AllByRecursion, join_with_byte}
use Rattle.std.proofs.lemmas.List.{append-nil}
use Rattle.wv_version.specs.declared.dotted.Dotted.{Dotted}
use Rattle.wv_version.specs.declared.version.Version.{Version}
use Rattle.wv_version.specs.declared.version.Version.TheVariants as version
use Rattle.wv_version.specs.declared.relation.Relation.{Relation}
use Rattle.wv_version.specs.declared.relation.Relation.TheVariants.{Below, AtMost, Above, AtLeast, Caret, Tilde}
use Rattle.wv_version.specs.declared.term.Term.{Term}
use Rattle.wv_version.specs.declared.term.Term.TheVariants as term
use Rattle.wv_version.specs.declared.predicate.Predicate.{Predicate}
use Rattle.wv_version.specs.Cut.{IsFree}
use Rattle.wv_version.specs.Numeral.{IsNumeral}
use Rattle.wv_version.specs.Dots.{SpellsEach, IsDotJoined}
use Rattle.wv_version.specs.Dotted.{IsDotted}
use Rattle.wv_version.specs.Version.{IsVersion}
use Rattle.wv_version.specs.Relation.{sign}
use Rattle.wv_version.specs.Term.{IsTerm, IsWildcard}
use Rattle.wv_version.specs.Predicate.{words, IsPredicate}
use Rattle.wv_version.specs.Reading.{parts, numbers_of}
use Rattle.wv_version.proofs.Cutting.{parts-join}
use Rattle.wv_version.proofs.Dotting.{dotted_same, numbers_of-only}
use Rattle.wv_version.proofs.Signs.{IsDigitLed, led_dotted}

one-version : (text : List ℕ) (v w : Version) → IsVersion text v → IsVersion text w → v ≡ w
one-version text (version.Dotted d) (version.Dotted e) g h = ap version.Dotted (dotted_same text d e g h)
one-version text (version.Dotted d) (version.Plain t) g h = absurd (h.1 d g)
one-version text (version.Plain s) (version.Dotted e) g h = absurd (g.1 e h)
one-version text (version.Plain s) (version.Plain t) g h = ap version.Plain (g.0 ∙ sym h.0)

-- ---- The first byte of a term

heads_same : (x y : ℕ) (xs ys : List ℕ) → x ∷ xs ≡ y ∷ ys → x ≡ y
heads_same x y xs ys e = cc

led-append : (xs ys : List ℕ) → IsDigitLed xs → IsDigitLed (xs ++ ys)
led-append xs ys led = record { first = led.first; rest = led.rest ++ ys; whole = ap (λ zs. zs ++ ys) led.whole; low = led.low; high = led.high }

-- numbers between dots are a dotted version
led_numbers : (text numbers : List ℕ) → IsDotJoined IsNumeral text numbers → IsDigitLed text
led_numbers text numbers h = led_dotted text (record { numbers = numbers; pre_release = None })
    (record { numbers = text; pre_release = None; build = None; whole = sym (append-nil (text ++ []) ∙ append-nil text); of_numbers = h; of_pre_release = tt; of_build = tt })

led_wildcard : (text numbers : List ℕ) → IsWildcard text numbers → IsDigitLed text
led_wildcard text numbers h = subst IsDigitLed (sym h.before.whole) (led-append h.front (46 ∷ h.before.mark ∷ []) (led_numbers h.front numbers h.of_numbers))

not_led : (text more : List ℕ) (c : ℕ) → IsDigitLed text → text ≡ c ∷ more → (c < 48 → ⊥) × (57 < c → ⊥)
not_led text more c led e =
    let same : led.first ≡ c = heads_same led.first c led.rest more (sym led.whole ∙ e) in
    let low : 48 ≤ led.first = led.low in
    let high : led.first ≤ 57 = led.high in
    (λ below. omega arith, λ above. omega arith)

sign_first : (relation : Relation) (rest : List ℕ) (c : ℕ) (cs : List ℕ) → sign relation ++ rest ≡ c ∷ cs → (59 < c) × (c ≡ 61 → ⊥)
sign_first Below rest c cs e = let same : 60 ≡ c = cc in (omega arith, λ h. absurd (omega arith))
sign_first AtMost rest c cs e = let same : 60 ≡ c = cc in (omega arith, λ h. absurd (omega arith))
sign_first Above rest c cs e = let same : 62 ≡ c = cc in (omega arith, λ h. absurd (omega arith))
sign_first AtLeast rest c cs e = let same : 62 ≡ c = cc in (omega arith, λ h. absurd (omega arith))
sign_first Caret rest c cs e = let same : 94 ≡ c = cc in (omega arith, λ h. absurd (omega arith))
sign_first Tilde rest c cs e = let same : 126 ≡ c = cc in (omega arith, λ h. absurd (omega arith))

not_equal_led : (text more : List ℕ) → IsDigitLed text → text ≡ 61 ∷ more → ⊥
not_equal_led text more led e = (not_led text more 61 led e).1 (omega arith)

-- before dotted versions stands one sign
one-sign : (r s : Relation) (a b : List ℕ) → sign r ++ a ≡ sign s ++ b → IsDigitLed a → IsDigitLed b → (r ≡ s) × (a ≡ b)
one-sign Below AtMost a b e led led' = let rest : a ≡ 61 ∷ b = cc in absurd (not_equal_led a b led rest)
one-sign AtMost Below a b e led led' = let rest : b ≡ 61 ∷ a = cc in absurd (not_equal_led b a led' rest)
one-sign Above AtLeast a b e led led' = let rest : a ≡ 61 ∷ b = cc in absurd (not_equal_led a b led rest)
one-sign AtLeast Above a b e led led' = let rest : b ≡ 61 ∷ a = cc in absurd (not_equal_led b a led' rest)
one-sign Below Below a b e led led' = (refl, cc)
one-sign AtMost AtMost a b e led led' = (refl, cc)
one-sign Above Above a b e led led' = (refl, cc)
one-sign AtLeast AtLeast a b e led led' = (refl, cc)
one-sign Caret Caret a b e led led' = (refl, cc)
one-sign Tilde Tilde a b e led led' = (refl, cc)
one-sign r s a b e led led' = absurd (omega (arith, heads_same _ _ _ _ e))

before_same : (f g : List ℕ) (m n : ℕ) → f ++ 46 ∷ m ∷ [] ≡ g ++ 46 ∷ n ∷ [] → f ≡ g
before_same [] [] m n e = refl
before_same [] (y ∷ g) m n e = let rest : m ∷ [] ≡ g ++ 46 ∷ n ∷ [] = cc in absurd (omega (arith, ap length rest, length-append g (46 ∷ n ∷ [])))
before_same (x ∷ f) [] m n e = let rest : f ++ 46 ∷ m ∷ [] ≡ n ∷ [] = cc in absurd (omega (arith, ap length rest, length-append f (46 ∷ m ∷ [])))
before_same (x ∷ f) (y ∷ g) m n e =
    let rest : f ++ 46 ∷ m ∷ [] ≡ g ++ 46 ∷ n ∷ [] = cc in
    let same : f ≡ g = before_same f g m n rest in
    cc

-- ---- Terms

some-same : {A : Type 0} (x y : A) → Some x ≡ Some y → x ≡ y
some-same x y e = cc

one-wildcard : (text xs ys : List ℕ) → IsWildcard text xs → IsWildcard text ys → xs ≡ ys
one-wildcard text xs ys g h =
    let same : g.front ≡ h.front = before_same g.front h.front g.before.mark h.before.mark (sym g.before.whole ∙ h.before.whole) in
    some-same xs ys (sym (numbers_of-only g.front xs g.of_numbers) ∙ ap numbers_of same ∙ numbers_of-only h.front ys h.of_numbers)

star_or_equal : (rest : List ℕ) → codes "*" ≡ 61 ∷ rest → ⊥
star_or_equal rest e = cc

-- a text of one kind of term is of no later kind
any-alone : (text : List ℕ) (t : Term) → text ≡ codes "*" → IsTerm text t → term.Any ≡ t
any-alone text term.Any e h = refl
any-alone text (term.Is v) e (inl equal) = absurd (star_or_equal equal.rest (sym e ∙ equal.whole))
any-alone text (term.Is v) e (inr bare) = absurd (bare.0.not_any e)
any-alone text (term.Compared r d) e h = let first = sign_first r h.0 42 [] (sym h.1 ∙ e) in absurd (omega (arith, first.0))
any-alone text (term.Wildcard ns) e h = absurd ((not_led text [] 42 (led_wildcard text ns h) e).0 (omega arith))

equal-alone : (text rest : List ℕ) (v : Version) (t : Term) → text ≡ 61 ∷ rest → IsVersion rest v → IsTerm text t → term.Is v ≡ t
equal-alone text rest v term.Any e is h = absurd (star_or_equal rest (sym h ∙ e))
equal-alone text rest v (term.Is w) e is (inl equal) =
    let both : 61 ∷ rest ≡ 61 ∷ equal.rest = sym e ∙ equal.whole in
    let same : rest ≡ equal.rest = cc in
    ap term.Is (one-version rest v w is (subst (λ (r : List ℕ). IsVersion r w) (sym same) equal.of_version))
equal-alone text rest v (term.Is w) e is (inr bare) = absurd (bare.0.not_equal rest e)
equal-alone text rest v (term.Compared r d) e is h = let first = sign_first r h.0 61 rest (sym h.1 ∙ e) in absurd (first.1 refl)
equal-alone text rest v (term.Wildcard ns) e is h = absurd ((not_led text rest 61 (led_wildcard text ns h) e).1 (omega arith))

signed-wildcard : (text rest ns : List ℕ) (r : Relation) → text ≡ sign r ++ rest → IsWildcard text ns → ⊥
signed-wildcard text rest ns r e h =
    let led = led_wildcard text ns h in
    let first = sign_first r rest led.first led.rest (sym e ∙ led.whole) in
    let high : led.first ≤ 57 = led.high in
    omega (arith, first.0)

compared-same : (text : List ℕ) (r s : Relation) (d e : Dotted) → IsTerm text (term.Compared r d) → IsTerm text (term.Compared s e) → term.Compared r d ≡ term.Compared s e
compared-same text r s d e g h =
    let both = one-sign r s g.0 h.0 (sym g.1 ∙ h.1) (led_dotted g.0 d g.2) (led_dotted h.0 e h.2) in
    let same : r ≡ s = both.0 in
    let versions : d ≡ e = dotted_same g.0 d e g.2 (subst (λ (t : List ℕ). IsDotted t e) (sym both.1) h.2) in
    cc

pub one-term : (text : List ℕ) (t u : Term) → IsTerm text t → IsTerm text u → t ≡ u
one-term text term.Any u g h = any-alone text u g h
one-term text t term.Any g h = sym (any-alone text t h g)
one-term text (term.Is v) u (inl equal) h = equal-alone text equal.rest v u equal.whole equal.of_version h
one-term text t (term.Is w) g (inl equal) = sym (equal-alone text equal.rest w t equal.whole equal.of_version g)
one-term text (term.Is v) (term.Is w) (inr bare) (inr other) = ap term.Is (one-version text v w bare.1 other.1)
one-term text (term.Is v) (term.Compared s e) (inr bare) h = absurd (bare.0.no_sign s h.0 h.1)
one-term text (term.Is v) (term.Wildcard ns) (inr bare) h = absurd (bare.0.no_wildcard ns h)
one-term text (term.Compared r d) (term.Is w) g (inr bare) = absurd (bare.0.no_sign r g.0 g.1)
one-term text (term.Wildcard ms) (term.Is w) g (inr bare) = absurd (bare.0.no_wildcard ms g)
one-term text (term.Compared r d) (term.Compared s e) g h = compared-same text r s d e g h
one-term text (term.Compared r d) (term.Wildcard ns) g h = absurd (signed-wildcard text g.0 ns r g.1 h)
one-term text (term.Wildcard ms) (term.Compared s e) g h = absurd (signed-wildcard text h.0 ms s h.1 g)
one-term text (term.Wildcard ms) (term.Wildcard ns) g h = ap term.Wildcard (one-wildcard text ms ns g h)

-- ---- Predicates

spelled-same : {A : Type 0} (Spells : List ℕ → A → Type 0) → ((text : List ℕ) (x y : A) → Spells text x → Spells text y → x ≡ y) → (pieces : List (List ℕ)) (xs ys : List A) → SpellsEach Spells pieces xs → SpellsEach Spells pieces ys → xs ≡ ys
spelled-same Spells one [] [] [] g h = refl
spelled-same Spells one [] (x ∷ xs) ys g h = absurd g
spelled-same Spells one [] [] (y ∷ ys) g h = absurd h
spelled-same Spells one (p ∷ ps) [] ys g h = absurd g
spelled-same Spells one (p ∷ ps) (x ∷ xs) [] g h = absurd h
spelled-same Spells one (p ∷ ps) (x ∷ xs) (y ∷ ys) g h =
    ap (λ z. z ∷ xs) (one p x y g.0 h.0) ∙ ap (λ zs. y ∷ zs) (spelled-same Spells one ps xs ys g.1 h.1)

-- the words of a text don't depend on the pieces
words_same : (text : List ℕ) (pieces : List (List ℕ)) → text ≡ join_with_byte 32 pieces → AllByRecursion (IsFree 32) pieces → words pieces ≡ words (parts 32 text)
words_same text [] joined free = rw joined refl
words_same text (p ∷ pieces) joined free = ap words (sym (parts-join 32 (p ∷ pieces) (omega arith) free) ∙ ap (parts 32) (sym joined))

pub one-predicate : (text : List ℕ) (p q : Predicate) → IsPredicate text p → IsPredicate text q → p ≡ q
one-predicate text p q g h =
    let same : words g.pieces ≡ words h.pieces = words_same text g.pieces g.joined g.free ∙ sym (words_same text h.pieces h.joined h.free) in
    let terms : p.terms ≡ q.terms = spelled-same IsTerm one-term (words h.pieces) p.terms q.terms (subst (λ (ws : List (List ℕ)). SpellsEach IsTerm ws p.terms) same g.each) h.each in
    ap made terms
  where
    made : List Term → Predicate
    made terms = record { terms = terms }
