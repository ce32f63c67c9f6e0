-- Fields and methods.
use Rattle.std.proofs.Common.{◌≡◌, ℕ, ◌-◌, List, ◌++◌, length, refl, sym, ap, subst, ◌∙◌}
use Rattle.wv_base.specs.declared.class_file.PoolEntry.{PoolEntry}
use Rattle.wv_pool.specs.Entries.{number_bytes}
use Rattle.wv_class.specs.declared.number.Three.{Three}
use Rattle.wv_class.specs.declared.raw_class.Place.{Place}
use Rattle.wv_class.specs.declared.raw_class.RawAttribute.{RawAttribute}
use Rattle.wv_class.specs.declared.raw_class.RawMember.{RawMember}
use Rattle.wv_class.specs.Layout.{SpellsAttributes, SpellsMember, SpellsMembers}
use Rattle.wv_class.specs.Numbers.{SpellsThree}
use Rattle.wv_class.specs.Reading.{Taken, Stopped}
use Rattle.wv_class.proofs.Grammars.{IsGrammar, Then, Was, Alike, then_grammar, was_grammar, was_takes, was_stops, alike_grammar, alike_stops, alike_takes, then_takes, first_stops, second_stops}
use Rattle.wv_class.proofs.Shorts.{three_grammar}
use Rattle.wv_class.proofs.Times.{table_grammar}
use Rattle.wv_class.proofs.AttributeReads.{attributes_grammar}

-- three numbers in front of other bytes
pub three_in_front : (a b c : ℕ) (rest : List ℕ) → (number_bytes a ++ (number_bytes b ++ number_bytes c)) ++ rest ≡ number_bytes a ++ (number_bytes b ++ (number_bytes c ++ rest))
three_in_front a b c rest = refl

module _ (pool : List PoolEntry) (place : Place) where
  abbrev member_of : Three → List RawAttribute → RawMember
  member_of three attributes = record { flags = three.first; name = three.second; descriptor = three.third; attributes = attributes }

  abbrev Headed : Three → ℕ → RawMember → List ℕ → Type 0
  Headed three = Was (member_of three) (SpellsAttributes pool place)

  headed_to : (near : ℕ) (x : RawMember) (t : List ℕ) → Then SpellsThree Headed near x t → SpellsMember pool place near x t
  headed_to near x t s =
      let w = s.second_is in
      let h = s.first_is in
      let wide : length s.front ≡ 6 = ap length h.spelled in
      subst (λ (z : RawMember). SpellsMember pool place near z t) (sym w.is) (record {
        flags = h.first;
        name = h.second;
        descriptor = h.third;
        table = s.back;
        attributes = subst (λ (k : ℕ). SpellsAttributes pool place (near - k) w.from s.back) wide w.spelled;
        spelled = s.parts ∙ ap (λ (z : List ℕ). z ++ s.back) h.spelled ∙ three_in_front s.first.first s.first.second s.first.third s.back;
      })

  headed_from : (near : ℕ) (x : RawMember) (t : List ℕ) → SpellsMember pool place near x t → Then SpellsThree Headed near x t
  headed_from near x t s = record {
    first = record { first = x.flags; second = x.name; third = x.descriptor };
    front = number_bytes x.flags ++ (number_bytes x.name ++ number_bytes x.descriptor);
    back = s.table;
    parts = s.spelled ∙ sym (three_in_front x.flags x.name x.descriptor s.table);
    first_is = record { first = s.flags; second = s.name; third = s.descriptor; spelled = refl };
    second_is = record { from = x.attributes; is = refl; spelled = s.attributes };
  }

  headed_alike : Alike (Then SpellsThree Headed) (SpellsMember pool place)
  headed_alike = record { there = headed_to; back = headed_from }

  headed_grammar : (three : Three) → IsGrammar (Headed three)
  headed_grammar three = was_grammar (member_of three) (SpellsAttributes pool place) (attributes_grammar pool place)

  pub member_grammar : IsGrammar (SpellsMember pool place)
  member_grammar = alike_grammar headed_alike (then_grammar SpellsThree Headed three_grammar (λ near three t s. headed_grammar three))

  pub members_grammar : IsGrammar (SpellsMembers pool place)
  members_grammar = table_grammar (SpellsMember pool place) member_grammar

  pub head_stops : (bytes : List ℕ) (left : ℕ) → Stopped SpellsThree bytes left → Stopped (SpellsMember pool place) bytes left
  head_stops bytes left s = alike_stops headed_alike bytes left (first_stops SpellsThree Headed three_grammar (λ near three t s. headed_grammar three) bytes left s)

  pub attributes_stop : (bytes : List ℕ) (three : Three) (rest : List ℕ) (left : ℕ) → Taken SpellsThree bytes three rest → Stopped (SpellsAttributes pool place) rest left → Stopped (SpellsMember pool place) bytes left
  attributes_stop bytes three rest left t s = alike_stops headed_alike bytes left (second_stops SpellsThree Headed three_grammar bytes three rest left t (was_stops (member_of three) (SpellsAttributes pool place) rest left s))

  pub member_takes : (bytes : List ℕ) (three : Three) (rest : List ℕ) (attributes : List RawAttribute) (after : List ℕ) → Taken SpellsThree bytes three rest → Taken (SpellsAttributes pool place) rest attributes after → Taken (SpellsMember pool place) bytes (member_of three attributes) after
  member_takes bytes three rest attributes after t u =
      alike_takes headed_alike bytes (member_of three attributes) after (then_takes SpellsThree Headed three_grammar bytes three rest (member_of three attributes) after t (was_takes (member_of three) (SpellsAttributes pool place) rest attributes after u))
