-- Attributes.
use Rattle.std.proofs.Common.{◌≡◌, ℕ, ◌-◌, ◌^◌, ◌<◌, List, ◌++◌, length, Result, refl, sym, ap, subst, ◌∙◌, arith}
use Rattle.wv_base.specs.declared.class_file.PoolEntry.{PoolEntry}
use Rattle.wv_pool.specs.Entries.{number_bytes}
use Rattle.wv_code.specs.Content.{length_bytes}
use Rattle.wv_class.specs.declared.stop.Stop.{Stop}
use Rattle.wv_class.specs.declared.raw_class.Place.{Place}
use Rattle.wv_class.specs.declared.raw_class.Kind.{Kind}
use Rattle.wv_class.specs.declared.raw_class.Content.{Content}
use Rattle.wv_class.specs.declared.raw_class.RawAttribute.{RawAttribute}
use Rattle.wv_class.specs.Kinds.{kind_at}
use Rattle.wv_class.specs.Layout.{SpellsContent, SpellsAttribute, SpellsAttributes}
use Rattle.wv_class.specs.Lengths.{AllowsLength}
use Rattle.wv_class.specs.Contents.{SpellsSized, SpellsBehindLength}
use Rattle.wv_class.specs.Numbers.{SpellsShort, SpellsAllowed}
use Rattle.wv_class.specs.Reading.{Taken, Stopped, Reads}
use Rattle.wv_class.proofs.Grammars.{IsGrammar, Then, Was, Alike, then_grammar, was_grammar, was_takes, was_stops, alike_grammar, alike_stops, alike_takes, alike_reads, then_takes, first_stops, second_stops, second_reads}
use Rattle.wv_class.proofs.Shorts.{short_grammar}
use Rattle.wv_class.proofs.Times.{table_grammar}
use Rattle.wv_class.proofs.AllowedNumbers.{four_is, is_four}
use Rattle.wv_class.proofs.KindLengths.{length_grammar}
use Rattle.wv_class.proofs.ContentGrammars.{content_length, sized_grammar}

module _ (pool : List PoolEntry) where
  -- ---- behind the name

  module _ (kind : Kind) where
    abbrev Length : ℕ → ℕ → List ℕ → Type 0
    Length = SpellsAllowed 4 (AllowsLength kind)

    abbrev Sized : ℕ → ℕ → Content → List ℕ → Type 0
    Sized = SpellsSized pool kind

    sized_to : (near : ℕ) (x : Content) (t : List ℕ) → Then Length Sized near x t → SpellsBehindLength pool kind near x t
    sized_to near x t s =
        let c = s.second_is in
        let l = four_is (AllowsLength kind) near s.first s.front s.first_is in
        record {
          text = s.back;
          short = subst (λ (k : ℕ). k < 2 ^ 32) (sym c.long) l.0;
          known = c.known;
          is = subst (λ (k : ℕ). SpellsContent (near - k) pool x s.back) s.first_is.wide c.is;
          spelled = s.parts ∙ ap (λ (z : List ℕ). z ++ s.back) (l.1 ∙ ap length_bytes (sym c.long));
        }

    sized_from : (near : ℕ) (x : Content) (t : List ℕ) → SpellsBehindLength pool kind near x t → Then Length Sized near x t
    sized_from near x t s =
        let allowed : AllowsLength kind (length s.text) = subst (λ (k : Kind). AllowsLength k (length s.text)) (sym s.known) (content_length pool (near - 4) x s.text s.is) in
        record {
          first = length s.text;
          front = length_bytes (length s.text);
          back = s.text;
          parts = s.spelled;
          first_is = is_four (AllowsLength kind) near (length s.text) (length_bytes (length s.text)) s.short refl allowed;
          second_is = record { long = refl; known = s.known; is = s.is };
        }

    sized_alike : Alike (Then Length Sized) (SpellsBehindLength pool kind)
    sized_alike = record { there = sized_to; back = sized_from }

    sized_grammars : (near n : ℕ) (t : List ℕ) → Length near n t → IsGrammar (Sized n)
    sized_grammars near n t s = sized_grammar pool kind n (four_is (AllowsLength kind) near n t s).0 s.allowed

    pub behind_length_grammar : IsGrammar (SpellsBehindLength pool kind)
    behind_length_grammar = alike_grammar sized_alike (then_grammar Length Sized (length_grammar kind) sized_grammars)

    pub length_stops : (bytes : List ℕ) (left : ℕ) → Stopped Length bytes left → Stopped (SpellsBehindLength pool kind) bytes left
    length_stops bytes left s = alike_stops sized_alike bytes left (first_stops Length Sized (length_grammar kind) sized_grammars bytes left s)

    pub length_reads : {V : Type 0} (view : V → Content × List ℕ) (bytes : List ℕ) (n : ℕ) (rest : List ℕ) (result : Result V Stop) → Taken Length bytes n rest → Reads view (Sized n) rest result → Reads view (SpellsBehindLength pool kind) bytes result
    length_reads view bytes n rest result t r = alike_reads sized_alike view bytes result (second_reads Length Sized (length_grammar kind) view bytes n rest result t r)

    pub taken_length : (bytes : List ℕ) (n : ℕ) (rest : List ℕ) → Taken Length bytes n rest → AllowsLength kind n
    taken_length bytes n rest t = let s = t.spelled in s.allowed

  -- ---- whole

  module _ (place : Place) where
    abbrev attribute_of : ℕ → Content → RawAttribute
    attribute_of name content = record { name = name; content = content }

    abbrev Named : ℕ → ℕ → RawAttribute → List ℕ → Type 0
    Named name = Was (attribute_of name) (SpellsBehindLength pool (kind_at pool place name))

    named_to : (near : ℕ) (x : RawAttribute) (t : List ℕ) → Then SpellsShort Named near x t → SpellsAttribute pool place near x t
    named_to near x t s =
        let w = s.second_is in
        let c = w.spelled in
        let nearer : near - length s.front - 4 ≡ near - 6 = omega (arith, ap length s.first_is.1) in
        subst (λ (z : RawAttribute). SpellsAttribute pool place near z t) (sym w.is) (record {
          content = c.text;
          short = c.short;
          name = s.first_is.0;
          known = c.known;
          content_is = subst (λ (k : ℕ). SpellsContent k pool w.from c.text) nearer c.is;
          spelled = s.parts ∙ ap (λ (z : List ℕ). z ++ s.back) s.first_is.1 ∙ ap (λ (z : List ℕ). number_bytes s.first ++ z) c.spelled;
        })

    named_from : (near : ℕ) (x : RawAttribute) (t : List ℕ) → SpellsAttribute pool place near x t → Then SpellsShort Named near x t
    named_from near x t s =
        let nearer : near - 6 ≡ near - length (number_bytes x.name) - 4 = omega arith in
        record {
          first = x.name;
          front = number_bytes x.name;
          back = length_bytes (length s.content) ++ s.content;
          parts = s.spelled;
          first_is = (s.name, refl);
          second_is = record {
            from = x.content;
            is = refl;
            spelled = record { text = s.content; short = s.short; known = s.known; is = subst (λ (k : ℕ). SpellsContent k pool x.content s.content) nearer s.content_is; spelled = refl };
          };
        }

    named_alike : Alike (Then SpellsShort Named) (SpellsAttribute pool place)
    named_alike = record { there = named_to; back = named_from }

    named_grammar : (name : ℕ) → IsGrammar (Named name)
    named_grammar name = was_grammar (attribute_of name) (SpellsBehindLength pool (kind_at pool place name)) (behind_length_grammar (kind_at pool place name))

    pub attribute_grammar : IsGrammar (SpellsAttribute pool place)
    attribute_grammar = alike_grammar named_alike (then_grammar SpellsShort Named short_grammar (λ near name t s. named_grammar name))

    pub attributes_grammar : IsGrammar (SpellsAttributes pool place)
    attributes_grammar = table_grammar (SpellsAttribute pool place) attribute_grammar

    pub name_stops : (bytes : List ℕ) (left : ℕ) → Stopped SpellsShort bytes left → Stopped (SpellsAttribute pool place) bytes left
    name_stops bytes left s = alike_stops named_alike bytes left (first_stops SpellsShort Named short_grammar (λ near name t s. named_grammar name) bytes left s)

    pub content_stops : (bytes : List ℕ) (name : ℕ) (rest : List ℕ) (left : ℕ) → Taken SpellsShort bytes name rest → Stopped (SpellsBehindLength pool (kind_at pool place name)) rest left → Stopped (SpellsAttribute pool place) bytes left
    content_stops bytes name rest left t s =
        alike_stops named_alike bytes left (second_stops SpellsShort Named short_grammar bytes name rest left t (was_stops (attribute_of name) (SpellsBehindLength pool (kind_at pool place name)) rest left s))

    pub content_takes : (bytes : List ℕ) (name : ℕ) (rest : List ℕ) (content : Content) (after : List ℕ) → Taken SpellsShort bytes name rest → Taken (SpellsBehindLength pool (kind_at pool place name)) rest content after → Taken (SpellsAttribute pool place) bytes (attribute_of name content) after
    content_takes bytes name rest content after t u =
        alike_takes named_alike bytes (attribute_of name content) after (then_takes SpellsShort Named short_grammar bytes name rest (attribute_of name content) after t (was_takes (attribute_of name) (SpellsBehindLength pool (kind_at pool place name)) rest content after u))
