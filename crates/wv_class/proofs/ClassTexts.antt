-- Class files, and what stands behind their pools.
use Rattle.std.proofs.Common.{◌≡◌, ℕ, ◌+◌, ◌-◌, ◌*◌, List, ◌++◌, length, refl, sym, ap, subst, ◌∙◌, arith}
use Rattle.wv_base.specs.declared.class_file.PoolEntry.{PoolEntry}
use Rattle.wv_pool.specs.Entries.{number_bytes}
use Rattle.wv_class.specs.declared.number.Three.{Three}
use Rattle.wv_class.specs.declared.raw_class.Place.TheVariants as places
use Rattle.wv_class.specs.declared.raw_class.RawAttribute.{RawAttribute}
use Rattle.wv_class.specs.declared.raw_class.RawMember.{RawMember}
use Rattle.wv_class.specs.declared.raw_class.RawRest.{RawRest}
use Rattle.wv_class.specs.Layout.{SpellsTable, SpellsAttributes, SpellsMembers, SpellsRest, numbers_bytes}
use Rattle.wv_class.specs.Numbers.{SpellsShort, SpellsThree}
use Rattle.wv_class.specs.Reading.{Taken, Stopped}
use Rattle.wv_class.proofs.Grammars.{IsGrammar, Then, Was, Alike, then_grammar, was_grammar, was_takes, was_stops, alike_grammar, alike_stops, alike_takes, then_takes, first_stops, second_stops}
use Rattle.wv_class.proofs.Shorts.{short_grammar, three_grammar}
use Rattle.wv_class.proofs.Times.{table_grammar}
use Rattle.wv_class.proofs.Numbered.{numbers_are, are_numbers, numbers_long}
use Rattle.wv_class.proofs.AttributeReads.{attributes_grammar}
use Rattle.wv_class.proofs.MemberReads.{three_in_front, members_grammar}

-- ---- behind the pool

module _ (pool : List PoolEntry) where
  abbrev rest_of : Three → List ℕ → List RawMember → List RawMember → List RawAttribute → RawRest
  rest_of head interfaces fields methods attributes = record { flags = head.first; class = head.second; superclass = head.third; interfaces = interfaces; fields = fields; methods = methods; attributes = attributes }

  abbrev Interfaces : ℕ → List ℕ → List ℕ → Type 0
  Interfaces = SpellsTable SpellsShort

  abbrev Fields : ℕ → List RawMember → List ℕ → Type 0
  Fields = SpellsMembers pool places.Field

  abbrev Methods : ℕ → List RawMember → List ℕ → Type 0
  Methods = SpellsMembers pool places.Method

  abbrev Attributes : ℕ → List RawAttribute → List ℕ → Type 0
  Attributes = SpellsAttributes pool places.Class

  abbrev BehindMethods : Three → List ℕ → List RawMember → List RawMember → ℕ → RawRest → List ℕ → Type 0
  BehindMethods head interfaces fields methods = Was (rest_of head interfaces fields methods) Attributes

  abbrev BehindFields : Three → List ℕ → List RawMember → ℕ → RawRest → List ℕ → Type 0
  BehindFields head interfaces fields = Then Methods (BehindMethods head interfaces fields)

  abbrev BehindInterfaces : Three → List ℕ → ℕ → RawRest → List ℕ → Type 0
  BehindInterfaces head interfaces = Then Fields (BehindFields head interfaces)

  abbrev BehindHead : Three → ℕ → RawRest → List ℕ → Type 0
  BehindHead head = Then Interfaces (BehindInterfaces head)

  abbrev Rest : ℕ → RawRest → List ℕ → Type 0
  Rest = Then SpellsThree BehindHead

  rest_to : (near : ℕ) (x : RawRest) (t : List ℕ) → Rest near x t → SpellsRest pool near x t
  rest_to near x t s =
      let h = s.first_is in
      let i = s.second_is in
      let f = i.second_is in
      let m = f.second_is in
      let w = m.second_is in
      let numbers = numbers_are (near - length s.front) i.first i.front i.first_is in
      let near_fields : near - length s.front - length i.front ≡ near - (8 + 2 * length i.first) = omega (arith, ap length h.spelled, ap length numbers.1, numbers_long i.first) in
      subst (λ (z : RawRest). SpellsRest pool near z t) (sym w.is) (record {
        flags = h.first;
        class = h.second;
        superclass = h.third;
        interfaces = numbers.0;
        fields_are = f.front;
        fields = subst (λ (k : ℕ). Fields k f.first f.front) near_fields f.first_is;
        methods_are = m.front;
        methods = subst (λ (k : ℕ). Methods (k - length f.front) m.first m.front) near_fields m.first_is;
        table = m.back;
        attributes = subst (λ (k : ℕ). Attributes (k - length f.front - length m.front) w.from m.back) near_fields w.spelled;
        spelled =
            s.parts ∙ ap (λ (z : List ℕ). z ++ s.back) h.spelled ∙ three_in_front s.first.first s.first.second s.first.third s.back
            ∙ ap (λ (z : List ℕ). number_bytes s.first.first ++ (number_bytes s.first.second ++ (number_bytes s.first.third ++ z)))
            (i.parts ∙ ap (λ (z : List ℕ). z ++ i.back) numbers.1 ∙ ap (λ (z : List ℕ). numbers_bytes i.first ++ z) (f.parts ∙ ap (λ (z : List ℕ). f.front ++ z) m.parts));
      })

  rest_from : (near : ℕ) (x : RawRest) (t : List ℕ) → SpellsRest pool near x t → Rest near x t
  rest_from near x t s =
      let near_fields : near - (8 + 2 * length x.interfaces) ≡ near - 6 - length (numbers_bytes x.interfaces) = omega (arith, numbers_long x.interfaces) in
      record {
        first = record { first = x.flags; second = x.class; third = x.superclass };
        front = number_bytes x.flags ++ (number_bytes x.class ++ number_bytes x.superclass);
        back = numbers_bytes x.interfaces ++ (s.fields_are ++ (s.methods_are ++ s.table));
        parts = s.spelled ∙ sym (three_in_front x.flags x.class x.superclass (numbers_bytes x.interfaces ++ (s.fields_are ++ (s.methods_are ++ s.table))));
        first_is = record { first = s.flags; second = s.class; third = s.superclass; spelled = refl };
        second_is = record {
          first = x.interfaces;
          front = numbers_bytes x.interfaces;
          back = s.fields_are ++ (s.methods_are ++ s.table);
          parts = refl;
          first_is = are_numbers (near - 6) x.interfaces (numbers_bytes x.interfaces) s.interfaces refl;
          second_is = record {
            first = x.fields;
            front = s.fields_are;
            back = s.methods_are ++ s.table;
            parts = refl;
            first_is = subst (λ (k : ℕ). Fields k x.fields s.fields_are) near_fields s.fields;
            second_is = record {
              first = x.methods;
              front = s.methods_are;
              back = s.table;
              parts = refl;
              first_is = subst (λ (k : ℕ). Methods (k - length s.fields_are) x.methods s.methods_are) near_fields s.methods;
              second_is = record { from = x.attributes; is = refl; spelled = subst (λ (k : ℕ). Attributes (k - length s.fields_are - length s.methods_are) x.attributes s.table) near_fields s.attributes };
            };
          };
        };
      }

  rest_alike : Alike Rest (SpellsRest pool)
  rest_alike = record { there = rest_to; back = rest_from }

  interfaces_grammar : IsGrammar Interfaces
  interfaces_grammar = table_grammar SpellsShort short_grammar

  behind_methods : (head : Three) (interfaces : List ℕ) (fields methods : List RawMember) → IsGrammar (BehindMethods head interfaces fields methods)
  behind_methods head interfaces fields methods = was_grammar (rest_of head interfaces fields methods) Attributes (attributes_grammar pool places.Class)

  behind_fields : (head : Three) (interfaces : List ℕ) (fields : List RawMember) → IsGrammar (BehindFields head interfaces fields)
  behind_fields head interfaces fields = then_grammar Methods (BehindMethods head interfaces fields) (members_grammar pool places.Method) (λ near methods t s. behind_methods head interfaces fields methods)

  behind_interfaces : (head : Three) (interfaces : List ℕ) → IsGrammar (BehindInterfaces head interfaces)
  behind_interfaces head interfaces = then_grammar Fields (BehindFields head interfaces) (members_grammar pool places.Field) (λ near fields t s. behind_fields head interfaces fields)

  behind_head : (head : Three) → IsGrammar (BehindHead head)
  behind_head head = then_grammar Interfaces (BehindInterfaces head) interfaces_grammar (λ near interfaces t s. behind_interfaces head interfaces)

  pub rest_grammar : IsGrammar (SpellsRest pool)
  rest_grammar = alike_grammar rest_alike (then_grammar SpellsThree BehindHead three_grammar (λ near head t s. behind_head head))

  -- ---- where reading it stops

  pub numbers_stop : (bytes : List ℕ) (left : ℕ) → Stopped SpellsThree bytes left → Stopped (SpellsRest pool) bytes left
  numbers_stop bytes left s = alike_stops rest_alike bytes left (first_stops SpellsThree BehindHead three_grammar (λ near head t s. behind_head head) bytes left s)

  module _ (bytes : List ℕ) (head : Three) (at_interfaces : List ℕ) (taken_head : Taken SpellsThree bytes head at_interfaces) where
    behind : (left : ℕ) → Stopped (BehindHead head) at_interfaces left → Stopped (SpellsRest pool) bytes left
    behind left s = alike_stops rest_alike bytes left (second_stops SpellsThree BehindHead three_grammar bytes head at_interfaces left taken_head s)

    pub interfaces_stop : (left : ℕ) → Stopped Interfaces at_interfaces left → Stopped (SpellsRest pool) bytes left
    interfaces_stop left s = behind left (first_stops Interfaces (BehindInterfaces head) interfaces_grammar (λ near interfaces t s. behind_interfaces head interfaces) at_interfaces left s)

    module _ (interfaces at_fields : List ℕ) (taken_interfaces : Taken Interfaces at_interfaces interfaces at_fields) where
      further : (left : ℕ) → Stopped (BehindInterfaces head interfaces) at_fields left → Stopped (SpellsRest pool) bytes left
      further left s = behind left (second_stops Interfaces (BehindInterfaces head) interfaces_grammar at_interfaces interfaces at_fields left taken_interfaces s)

      pub fields_stop : (left : ℕ) → Stopped Fields at_fields left → Stopped (SpellsRest pool) bytes left
      fields_stop left s = further left (first_stops Fields (BehindFields head interfaces) (members_grammar pool places.Field) (λ near fields t s. behind_fields head interfaces fields) at_fields left s)

      module _ (fields : List RawMember) (at_methods : List ℕ) (taken_fields : Taken Fields at_fields fields at_methods) where
        still : (left : ℕ) → Stopped (BehindFields head interfaces fields) at_methods left → Stopped (SpellsRest pool) bytes left
        still left s = further left (second_stops Fields (BehindFields head interfaces) (members_grammar pool places.Field) at_fields fields at_methods left taken_fields s)

        pub methods_stop : (left : ℕ) → Stopped Methods at_methods left → Stopped (SpellsRest pool) bytes left
        methods_stop left s = still left (first_stops Methods (BehindMethods head interfaces fields) (members_grammar pool places.Method) (λ near methods t s. behind_methods head interfaces fields methods) at_methods left s)

        module _ (methods : List RawMember) (at_attributes : List ℕ) (taken_methods : Taken Methods at_methods methods at_attributes) where
          pub attributes_stop : (left : ℕ) → Stopped Attributes at_attributes left → Stopped (SpellsRest pool) bytes left
          attributes_stop left s = still left (second_stops Methods (BehindMethods head interfaces fields) (members_grammar pool places.Method) at_methods methods at_attributes left taken_methods (was_stops (rest_of head interfaces fields methods) Attributes at_attributes left s))

          pub rest_takes : (attributes : List RawAttribute) (end : List ℕ) → Taken Attributes at_attributes attributes end → Taken (SpellsRest pool) bytes (rest_of head interfaces fields methods attributes) end
          rest_takes attributes end t =
              let value = rest_of head interfaces fields methods attributes in
              alike_takes rest_alike bytes value end
              (then_takes SpellsThree BehindHead three_grammar bytes head at_interfaces value end taken_head
              (then_takes Interfaces (BehindInterfaces head) interfaces_grammar at_interfaces interfaces at_fields value end taken_interfaces
              (then_takes Fields (BehindFields head interfaces) (members_grammar pool places.Field) at_fields fields at_methods value end taken_fields
              (then_takes Methods (BehindMethods head interfaces fields) (members_grammar pool places.Method) at_methods methods at_attributes value end taken_methods
              (was_takes (rest_of head interfaces fields methods) Attributes at_attributes attributes end t)))))
