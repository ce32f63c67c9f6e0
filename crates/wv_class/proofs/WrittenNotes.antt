-- Tables of annotations and attributes that are kept, as they are read again.
use Rattle.std.proofs.Common.{◌≡◌, ℕ, zero, suc, ◌+◌, ◌-◌, ◌<◌, ◌≤◌, ◌&&◌, nat_le, if◌then◌else◌, Bool, true, false, List, [], ◌∷◌, ◌++◌, length, Option, Some, None, refl, sym, ap, subst, ◌∙◌, inl, inr, arith, append_assoc}
use Rattle.std.specs.Prelude.{slice_get}
use Rattle.std.specs.List.{AllByRecursion, flat_map}
use Rattle.std.proofs.lemmas.List.{length-append}
use Rattle.std.proofs.lemmas.Bool.Decides.{nat_tests}
use Rattle.wv_base.specs.declared.class_file.PoolEntry.{PoolEntry}
use Rattle.wv_base.specs.declared.class_file.Attribute.{Attribute}
use Rattle.wv_base.specs.declared.note.Note.{Note}
use Rattle.wv_pool.specs.Adding.{Keeps}
use Rattle.wv_pool.specs.References.{entry_of, text_in, text_of}
use Rattle.wv_code.specs.Body.{kept_name}
use Rattle.wv_code.specs.WritingBody.{written_bytes}
use Rattle.wv_attr.specs.declared.mark.Mark.{Mark}
use Rattle.wv_attr.specs.Layout.{lists, IsParameterTable}
use Rattle.wv_attr.specs.Meanings.{IsNoteList, AreListed}
use Rattle.wv_attr.specs.References.{IsSound, BreaksAt, FirstBreaks}
use Rattle.wv_attr.specs.Writing.{as_members, as_parameters, AreMembers, AreParameters}
use Rattle.wv_class.specs.declared.raw_class.Place.{Place}
use Rattle.wv_class.specs.declared.raw_class.Place.TheVariants as places
use Rattle.wv_class.specs.declared.raw_class.Kind.TheVariants as kinds
use Rattle.wv_class.specs.declared.raw_class.Content.TheVariants as contents
use Rattle.wv_class.specs.declared.raw_class.RawMember.{RawMember}
use Rattle.wv_class.specs.Appending.{WritesEach, WritesNamed, WritesNotes, WritesTable, IsNumbered, WritesOthers}
use Rattle.wv_class.specs.Formed.{AreFormedKept, IsFormedTableOf, IsFormedTable, AreFormedNotes}
use Rattle.wv_class.specs.Kinds.{named_kind, text_kind, kind_at}
use Rattle.wv_class.specs.Layout.{SpellsLists}
use Rattle.wv_class.specs.Tables.{parameters_follow, same, follows, with_tables, tables_of, parameter_table}
use Rattle.wv_class.proofs.ShallowParts.{parts_full}
use Rattle.wv_class.proofs.WrittenParts.{Parts, AreParts, no_parts, one_before}

-- ---- A table is of annotations of one kind

-- annotations of such a table
abbrev AreAlike : Bool → Option ℕ → List Note → Type 0
AreAlike visible None notes = AreMembers visible notes
AreAlike visible (Some place) notes = AreParameters visible notes

abbrev IsUniform : List Note → Type 0
IsUniform [] = ⊥
IsUniform (note ∷ notes) = AreAlike note.visible note.parameter (note ∷ notes)

same_is : (a b : Bool) → same a b ≡ true → a ≡ b
same_is true true e = refl
same_is true false e = absurd cc
same_is false true e = absurd cc
same_is false false e = refl

first_holds : (a b : Bool) → (a && b) ≡ true → a ≡ true
first_holds true b e = refl
first_holds false b e = absurd cc

never_both : (a : Bool) → (a && false) ≡ true → ⊥
never_both true e = absurd cc
never_both false e = absurd cc

one_alike : (visible : Bool) (p : Option ℕ) (note : Note) → note.visible ≡ visible → note.parameter ≡ p → AreAlike visible p (note ∷ [])
one_alike visible None note e f = ((e, f), tt)
one_alike visible (Some place) note e f = (e, tt)

more_alike : (visible v : Bool) (p q : Option ℕ) (note : Note) (notes : List Note) → note.visible ≡ visible → note.parameter ≡ p → (same visible v && parameters_follow p q) ≡ true → AreAlike v q notes → AreAlike visible p (note ∷ notes)
more_alike visible v None None note notes e f test h = ((e, f), subst (λ (b : Bool). AreMembers b notes) (sym (same_is visible v (first_holds (same visible v) true test))) h)
more_alike visible v None (Some q) note notes e f test h = absurd (never_both (same visible v) test)
more_alike visible v (Some p) None note notes e f test h = absurd (never_both (same visible v) test)
more_alike visible v (Some p) (Some q) note notes e f test h = (e, subst (λ (b : Bool). AreParameters b notes) (sym (same_is visible v (first_holds (same visible v) (nat_le p q) test))) h)

uniform_more : (note : Note) (tables : List (List Note)) → AllByRecursion IsUniform tables → AllByRecursion IsUniform (with_tables note tables)
uniform_more note [] h = (one_alike note.visible note.parameter note refl refl, tt)
uniform_more note ([] ∷ others) h = absurd h.0
uniform_more note ((next ∷ table) ∷ others) h = by_test (follows note next) refl
  where
    by_test : (t : Bool) → follows note next ≡ t → AllByRecursion IsUniform (if t then (note ∷ next ∷ table) ∷ others else (note ∷ []) ∷ (next ∷ table) ∷ others)
    by_test true e = (more_alike note.visible next.visible note.parameter next.parameter note (next ∷ table) refl refl e h.0, h.1)
    by_test false e = (one_alike note.visible note.parameter note refl refl, h)

tables_uniform : (notes : List Note) → AllByRecursion IsUniform (tables_of notes)
tables_uniform [] = tt
tables_uniform (note ∷ notes) = uniform_more note (tables_of notes) (tables_uniform notes)

-- the tables, one behind the other
abbrev joined : List (List Note) → List Note
joined tables = flat_map (λ (t : List Note). t) tables

joined_more : (note : Note) (tables : List (List Note)) → joined (with_tables note tables) ≡ note ∷ joined tables
joined_more note [] = refl
joined_more note ([] ∷ others) = refl
joined_more note ((next ∷ table) ∷ others) = by_test (follows note next)
  where
    by_test : (t : Bool) → joined (if t then (note ∷ next ∷ table) ∷ others else (note ∷ []) ∷ (next ∷ table) ∷ others) ≡ note ∷ joined ((next ∷ table) ∷ others)
    by_test true = refl
    by_test false = refl

tables_joined : (notes : List Note) → joined (tables_of notes) ≡ notes
tables_joined [] = refl
tables_joined (note ∷ notes) = joined_more note (tables_of notes) ∙ ap (λ (t : List Note). note ∷ t) (tables_joined notes)

same_members : (visible : Bool) (notes : List Note) → AreMembers visible notes → as_members visible notes ≡ notes
same_members visible [] h = refl
same_members visible (n ∷ notes) h =
    ap (λ (b : Bool). record { visible = b; parameter = None; annotation = n.annotation } ∷ as_members visible notes) (sym h.0.0)
    ∙ ap (λ (o : Option ℕ). record { visible = n.visible; parameter = o; annotation = n.annotation } ∷ as_members visible notes) (sym h.0.1)
    ∙ ap (λ (t : List Note). n ∷ t) (same_members visible notes h.1)

same_parameters : (visible : Bool) (notes : List Note) → AreParameters visible notes → as_parameters visible notes ≡ notes
same_parameters visible [] h = refl
same_parameters visible (n ∷ notes) h =
    ap (λ (b : Bool). record { visible = b; parameter = n.parameter; annotation = n.annotation } ∷ as_parameters visible notes) (sym h.0)
    ∙ ap (λ (t : List Note). n ∷ t) (same_parameters visible notes h.1)

-- ---- What the name of a table is at its place

members_name : (place : Place) (visible : Bool) → named_kind place (parameter_table visible None) ≡ kinds.Annotations visible
members_name places.Class true = refl
members_name places.Class false = refl
members_name places.Field true = refl
members_name places.Field false = refl
members_name places.Method true = refl
members_name places.Method false = refl

members_kind : (pool : List PoolEntry) (place : Place) (number : ℕ) (visible : Bool) → text_of pool number ≡ Some (parameter_table visible None) → kind_at pool place number ≡ kinds.Annotations visible
unfolding kind_at
members_kind pool place number visible named = ap (text_kind place) named ∙ members_name place visible

parameters_name : (p : ℕ) (visible : Bool) → named_kind places.Method (parameter_table visible (Some p)) ≡ kinds.ParameterAnnotations visible
parameters_name p true = refl
parameters_name p false = refl

parameters_kind : (pool : List PoolEntry) (number p : ℕ) (visible : Bool) → text_of pool number ≡ Some (parameter_table visible (Some p)) → kind_at pool places.Method number ≡ kinds.ParameterAnnotations visible
unfolding kind_at
parameters_kind pool number p visible named = ap (text_kind places.Method) named ∙ parameters_name p visible

-- ---- Parts with sound numbers never break

part_sound : (pool : List PoolEntry) (before after all : List Mark) (part : Mark) → AllByRecursion (IsSound pool) all → all ≡ before ++ part ∷ after → IsSound pool part
part_sound pool [] after all part h e = (subst (AllByRecursion (IsSound pool)) e h).0
part_sound pool (b ∷ before) after all part h e = part_sound pool before after (before ++ part ∷ after) part (subst (AllByRecursion (IsSound pool)) e h).1 refl

not_sound : (pool : List PoolEntry) (part : Mark) (field : ℕ) → IsSound pool part → BreaksAt pool part field → ⊥
not_sound pool part field h (inl b) = b.1 h.0
not_sound pool part field h (inr b) = b.2 h.1

never_part : (pool : List PoolEntry) (parts : List Mark) (at : ℕ) → AllByRecursion (IsSound pool) parts → FirstBreaks pool parts at → ⊥
never_part pool parts at h f = not_sound pool f.part f.field (part_sound pool f.before f.after parts f.part h f.splits) f.breaks

-- ---- Numbers that the pool keeps

entry_front : (pool more : List PoolEntry) (n : ℕ) → n ≤ length pool → entry_of (pool ++ more) n ≡ entry_of pool n
entry_front pool more zero le = refl
entry_front pool more (suc k) le = get_front pool more k (omega arith)
  where
    get_front : (xs ys : List PoolEntry) (k : ℕ) → k < length xs → slice_get (xs ++ ys) k ≡ slice_get xs k
    get_front [] ys k lt = absurd (omega arith)
    get_front (x ∷ xs) ys zero lt = refl
    get_front (x ∷ xs) ys (suc k) lt = get_front xs ys k (omega arith)

kept_kind : (old pool : List PoolEntry) (place : Place) (number : ℕ) → Keeps old pool → number ≤ length old → kind_at pool place number ≡ kind_at old place number
unfolding kind_at
kept_kind old pool place number (more, longer) le = ap (λ (p : List PoolEntry). text_kind place (text_of p number)) longer ∙ ap (λ (o : Option PoolEntry). text_kind place (text_in o)) (entry_front old more number le)

number_kept : (old pool : List PoolEntry) (number : ℕ) → Keeps old pool → number ≤ length old → kept_name pool number ≡ number
number_kept old pool number (more, longer) le = by_test (nat_le number (length pool)) refl
  where
    within : number ≤ length pool
    within = omega (arith, ap length longer, length-append old more)

    by_test : (t : Bool) → nat_le number (length pool) ≡ t → ◌≡◌ {A = ℕ} (if t then number else 0) number
    by_test true e = refl
    by_test false e = absurd (grind (arith, nat_tests, within))

-- ---- Lists with their count in one byte

lists_spelled : (near : ℕ) (parts : List Mark) (content : List ℕ) (count : ℕ) (rest : List ℕ) → count < 256 → content ≡ count ∷ rest → IsParameterTable content parts → SpellsLists near parts content
lists_spelled near parts content count rest few is t =
    let here : count ≡ t.count = cc (is, t.starts) in
    subst (SpellsLists near parts) (sym t.starts) (
      subst (λ (n : ℕ). n < 256) here few,
      parts_full (length t.rest) (near - 1) (lists t.count) parts t.rest (omega arith) (record { follows = t.table.follows; spelled = t.table.spelled }),
    )

-- ---- One behind the other

module _ (pool : List PoolEntry) (class : ℕ) (Head : RawMember → Type 0) where
  -- annotations and attributes that are kept, and nothing else
  abbrev pub others_of : List Note → List Attribute → Parts
  others_of notes kept = record { codes = []; values = []; exceptions = []; notes = notes; kept = kept }

  abbrev pub Others : Place → List Note → List Attribute → ℕ → List ℕ → Type 0
  Others place notes kept count bytes = AreParts pool place class Head (others_of notes kept) count bytes

  members_before : (place : Place) (visible : Bool) (table notes : List Note) (kept : List Attribute) (count : ℕ) (front bytes : List ℕ) → WritesNamed pool (parameter_table visible None) (WritesNotes pool visible None table) front → AreMembers visible table
      → Others place notes kept count bytes → Others place (table ++ notes) kept (suc count) (front ++ bytes)
  members_before place visible table notes kept count front bytes w all others =
      one_before pool place class Head (record { name = w.number; content = contents.Annotations visible w.written.parts }) front table (others_of notes kept) count bytes
      (λ near. record {
        content = w.content;
        short = w.short;
        name = w.small;
        known = members_kind pool place w.number visible w.named;
        content_is = parts_full (length w.content) (near - 6) (lists 1) w.written.parts w.content (omega arith) (record { follows = w.written.table.follows; spelled = w.written.table.spelled });
        spelled = w.spelled;
      })
      (λ raw at head. never_part pool w.written.parts at w.written.sound)
      (subst (λ (t : List Note). IsNoteList pool visible t w.written.parts) (same_members visible table all) w.written.notes_are)
      others

  parameters_before : (p : ℕ) (visible : Bool) (table notes : List Note) (kept : List Attribute) (count : ℕ) (front bytes : List ℕ) → WritesNamed pool (parameter_table visible (Some p)) (WritesNotes pool visible (Some p) table) front → AreParameters visible table
      → Others places.Method notes kept count bytes → Others places.Method (table ++ notes) kept (suc count) (front ++ bytes)
  parameters_before p visible table notes kept count front bytes w all others =
      let read = w.written.0 in
      let counted = w.written.1 in
      one_before pool places.Method class Head (record { name = w.number; content = contents.ParameterAnnotations visible read.parts }) front table (others_of notes kept) count bytes
      (λ near. record {
        content = w.content;
        short = w.short;
        name = w.small;
        known = parameters_kind pool w.number p visible w.named;
        content_is = lists_spelled (near - 6) read.parts w.content counted.0 counted.1 counted.2 counted.3 read.table;
        spelled = w.spelled;
      })
      (λ raw at head h. never_part pool read.parts h.0 read.sound h.1)
      (subst (λ (t : List Note). AreListed pool visible 0 t read.parts) (same_parameters visible table all) read.notes_are)
      others

  kind_before : (place : Place) (visible : Bool) (p : Option ℕ) (table notes : List Note) (kept : List Attribute) (count : ℕ) (front bytes : List ℕ) → WritesNamed pool (parameter_table visible p) (WritesNotes pool visible p table) front → IsFormedTableOf place p table
      → AreAlike visible p table → Others place notes kept count bytes → Others place (table ++ notes) kept (suc count) (front ++ bytes)
  kind_before place visible None table notes kept count front bytes w formed all others = members_before place visible table notes kept count front bytes w all others
  kind_before places.Method visible (Some p) table notes kept count front bytes w formed all others = parameters_before p visible table notes kept count front bytes w all others
  kind_before places.Class visible (Some p) table notes kept count front bytes w formed all others = absurd formed
  kind_before places.Field visible (Some p) table notes kept count front bytes w formed all others = absurd formed

  table_before : (place : Place) (table notes : List Note) (kept : List Attribute) (count : ℕ) (front bytes : List ℕ) → WritesTable pool table front → IsFormedTable place table → IsUniform table
      → Others place notes kept count bytes → Others place (table ++ notes) kept (suc count) (front ++ bytes)
  table_before place [] notes kept count front bytes w formed all others = absurd w
  table_before place (note ∷ table) notes kept count front bytes w formed all others = kind_before place note.visible note.parameter (note ∷ table) notes kept count front bytes w formed all others

  tables_before : (place : Place) (tables : List (List Note)) (kept : List Attribute) (count : ℕ) (front bytes : List ℕ) → WritesEach (WritesTable pool) tables front → AllByRecursion (IsFormedTable place) tables → AllByRecursion IsUniform tables
      → Others place [] kept count bytes → Others place (joined tables) kept (count + length tables) (front ++ bytes)
  tables_before place [] kept count front bytes w formed all others =
      subst (λ (n : ℕ). Others place [] kept n (front ++ bytes)) (omega arith) (subst (λ (t : List ℕ). Others place [] kept count (t ++ bytes)) (sym w) others)
  tables_before place (table ∷ tables) kept count front bytes (first, back, here, later, is) formed all others =
      subst (λ (n : ℕ). Others place (joined (table ∷ tables)) kept n (front ++ bytes)) (omega arith)
      (subst (Others place (joined (table ∷ tables)) kept (suc (count + length tables))) (sym (append_assoc first back bytes) ∙ ap (λ (t : List ℕ). t ++ bytes) (sym is))
      (table_before place table (joined tables) kept (count + length tables) first (back ++ bytes) here formed.0 all.0 (tables_before place tables kept count back bytes later formed.1 all.1 others)))

  kept_again : (old : List PoolEntry) (place : Place) (kept : List Attribute) → Keeps old pool → AreFormedKept old place kept → AllByRecursion IsNumbered kept → Others place [] kept (length kept) (flat_map written_bytes kept)
  kept_again old place [] grown formed numbered = no_parts pool place class Head
  kept_again old place (a ∷ kept) grown formed numbered =
      subst (λ (n : ℕ). Others place [] (record { name = n; content = a.content } ∷ kept) (suc (length kept)) (written_bytes a ++ flat_map written_bytes kept)) (number_kept old pool a.name grown formed.0.0)
      (one_before pool place class Head (record { name = a.name; content = contents.Other a.content }) (written_bytes a) [] (others_of [] kept) (length kept) (flat_map written_bytes kept)
      (λ near. record {
        content = a.content;
        short = formed.0.2;
        name = numbered.0.0;
        known = kept_kind old pool place a.name grown formed.0.0 ∙ formed.0.1;
        content_is = (numbered.0.1, refl);
        spelled = refl;
      })
      (λ raw at head h. h)
      refl
      (kept_again old place kept grown formed.1 numbered.1))

  pub others_again : (old : List PoolEntry) (place : Place) (notes : List Note) (kept : List Attribute) (bytes : List ℕ) → Keeps old pool → AreFormedNotes place notes → AreFormedKept old place kept → WritesOthers pool notes kept bytes
      → AreParts pool place class Head (others_of notes kept) (length kept + length (tables_of notes)) bytes
  others_again old place notes kept bytes grown notes_formed kept_formed w =
      let all = tables_before place (tables_of notes) kept (length kept) w.tables (flat_map written_bytes kept) w.tables_are notes_formed (tables_uniform notes) (kept_again old place kept grown kept_formed w.kept_are) in
      subst (Others place notes kept (length kept + length (tables_of notes))) (sym w.spelled) (subst (λ (t : List Note). Others place t kept (length kept + length (tables_of notes)) (w.tables ++ flat_map written_bytes kept)) (tables_joined notes) all)
