-- Tables of annotations, as they are put.
use Rattle.std.proofs.Common.{◌≡◌, ℕ, zero, suc, ◌+◌, ◌-◌, ◌^◌, ◌<◌, ◌≤◌, Bool, List, [], ◌∷◌, ◌++◌, length, get_or, take, drop, slice_get, Option, Some, None, Result, Ok, Err, refl, sym, ap, subst, ◌∙◌, append_assoc, arith}
use Rattle.std.specs.Prelude.{IfOk, IfErr}
use Rattle.std.specs.List.{filter, AllByRecursion}
use Rattle.std.proofs.lemmas.List.{append-nil}
use Rattle.wv_base.specs.declared.class_file.PoolEntry.{PoolEntry}
use Rattle.wv_base.specs.declared.constant.Const.{Const}
use Rattle.wv_base.specs.declared.constant.Const.TheVariants as constants
use Rattle.wv_base.specs.declared.note.Note.{Note}
use Rattle.wv_pool.specs.declared.add.PoolFault.{PoolFault}
use Rattle.wv_pool.specs.declared.add.PoolFault.TheVariants as faults
use Rattle.wv_pool.specs.Adding.{needs, AreTooMany, Grows}
use Rattle.wv_pool.specs.Numbers.{Named}
use Rattle.wv_attr.specs.declared.piece.Piece.{Piece}
use Rattle.wv_attr.specs.Meanings.{AreRead, AreParametersRead}
use Rattle.wv_attr.specs.Pieces.{list_pieces, pieces_size}
use Rattle.wv_attr.specs.Writing.{IsFormed, piece_needs, pieces_need, as_members, as_parameters, AreOrdered, is_place, by_place, lists_pieces, AreWritableOf, parameters_need}
use Rattle.wv_code.proofs.Written.{all_front, all_back}
use Rattle.wv_code.proofs.OffsetFrames.{all_append, grown_same, not_many}
use Rattle.wv_class.specs.Tables.{tables_of, table_name}
use Rattle.wv_class.specs.Needs.{content_needs, table_needs, all_tables_need, annotations_need}
use Rattle.wv_class.specs.Appending.{Appends, WritesEach, WritesNamed, WritesNotes, WritesTable, IsWritableOf, IsWritableTable}
use Rattle.wv_class.proofs.HasParts.{part_named}
use Rattle.wv_class.proofs.Appended.{written_as, none_appended, more_appended}
use Rattle.wv_class.proofs.NamedAttributes.{content_as}

-- ---- How many lists a table of parameters has

-- in order, the last place is the greatest
pub up_to_last : (least most at place count : ℕ) (notes : List Note) (last : Note) → at + 1 ≡ length notes → AreOrdered least most notes → slice_get notes at ≡ Some last → last.parameter ≡ Some place → place < count → AreOrdered least count notes
up_to_last least most at place count [] last e h is of lt = tt
up_to_last least most (suc at) place count (n ∷ []) last e h is of lt = absurd (omega (arith, e))
up_to_last least most zero place count (n ∷ []) last e h is of lt =
    let same : h.0 ≡ place = cc (h.1, is, of) in
    (h.0, h.1, h.2, omega (arith, same, lt), tt)
up_to_last least most zero place count (n ∷ m ∷ notes) last e h is of lt = absurd (omega (arith, e))
up_to_last least most (suc at) place count (n ∷ m ∷ notes) last e h is of lt =
    let behind = up_to_last h.0 most at place count (m ∷ notes) last (omega (arith, e)) h.4 is of lt in
    (h.0, h.1, h.2, omega (arith, behind.2, behind.3), behind)

-- each annotation has a place below the limit
pub place_there : (least most at : ℕ) (notes : List Note) (n : Note) → AreOrdered least most notes → slice_get notes at ≡ Some n → (place : ℕ) × (n.parameter ≡ Some place) × (place < most)
place_there least most at [] n h is = absurd cc
place_there least most zero (m ∷ notes) n h is = let same : m ≡ n = cc is in (h.0, sym (ap (λ (t : Note). t.parameter) same) ∙ h.1, h.3)
place_there least most (suc at) (m ∷ notes) n h is = place_there h.0 most at notes n h.4 is

pub last_there : (notes : List Note) (last : Note) → slice_get notes (length notes - 1) ≡ Some last → length notes - 1 + 1 ≡ length notes
last_there [] last is = absurd cc
last_there (n ∷ notes) last is = omega arith

-- ---- Fewer lists

-- the annotations of a parameter
abbrev of_place : ℕ → List Note → List Note
of_place place notes = filter (λ (n : Note). is_place place n.parameter) notes

fewer_pieces : (P : Piece → Type 0) (place count more : ℕ) (notes : List Note) → count ≤ more → AllByRecursion P (lists_pieces (by_place place more notes)) → AllByRecursion P (lists_pieces (by_place place count notes))
fewer_pieces P place zero more notes le h = tt
fewer_pieces P place (suc count) zero notes le h = absurd (omega (arith, le))
fewer_pieces P place (suc count) (suc more) notes le h =
    let first = list_pieces (of_place place notes) in
    all_append P first (lists_pieces (by_place (place + 1) count notes)) (all_front P first (lists_pieces (by_place (place + 1) more notes)) h)
    (fewer_pieces P (place + 1) count more notes (omega (arith, le)) (all_back P first (lists_pieces (by_place (place + 1) more notes)) h))

sizes_together : (ps qs : List Piece) → pieces_size (ps ++ qs) ≡ pieces_size ps + pieces_size qs
sizes_together [] qs = omega arith
sizes_together (p ∷ ps) qs = let e = sizes_together ps qs in omega (arith, e)

fewer_bytes : (place count more : ℕ) (notes : List Note) → count ≤ more → pieces_size (lists_pieces (by_place place count notes)) ≤ pieces_size (lists_pieces (by_place place more notes))
fewer_bytes place zero more notes le = omega arith
fewer_bytes place (suc count) zero notes le = absurd (omega (arith, le))
fewer_bytes place (suc count) (suc more) notes le =
    let first = list_pieces (of_place place notes) in
    let few = sizes_together first (lists_pieces (by_place (place + 1) count notes)) in
    let many = sizes_together first (lists_pieces (by_place (place + 1) more notes)) in
    let others = fewer_bytes (place + 1) count more notes (omega (arith, le)) in
    omega (arith, few, many, others)

pub fewer_writable : (count more : ℕ) (notes : List Note) → count ≤ more → AreOrdered 0 count notes → AreWritableOf more notes → AreWritableOf count notes
fewer_writable count more notes le ordered h =
    let size = fewer_bytes 0 count more notes le in
    (ordered, h.1, fewer_pieces IsFormed 0 count more notes le h.2, omega (arith, size, h.3))

-- the pool has the constants of each part
abbrev HasPiece : List PoolEntry → Piece → Type 0
HasPiece pool p = AllByRecursion (Named pool) (piece_needs p)

each_piece : (pool : List PoolEntry) (ps : List Piece) → AllByRecursion (Named pool) (pieces_need ps) → AllByRecursion (HasPiece pool) ps
each_piece pool [] h = tt
each_piece pool (p ∷ ps) h = (all_back (Named pool) (pieces_need ps) (piece_needs p) h, each_piece pool ps (all_front (Named pool) (pieces_need ps) (piece_needs p) h))

pieces_together : (pool : List PoolEntry) (ps : List Piece) → AllByRecursion (HasPiece pool) ps → AllByRecursion (Named pool) (pieces_need ps)
pieces_together pool [] h = tt
pieces_together pool (p ∷ ps) h = all_append (Named pool) (pieces_need ps) (piece_needs p) (pieces_together pool ps h.1) h.0

pub fewer_named : (pool : List PoolEntry) (count more : ℕ) (notes : List Note) → count ≤ more → AllByRecursion (Named pool) (parameters_need more notes) → AllByRecursion (Named pool) (parameters_need count notes)
fewer_named pool count more notes le h =
    pieces_together pool (lists_pieces (by_place 0 count notes)) (fewer_pieces (HasPiece pool) 0 count more notes le (each_piece pool (lists_pieces (by_place 0 more notes)) h))

-- ---- The content of a table

module _ (old new : List PoolEntry) (visible : Bool) (p : Option ℕ) (table : List Note) (r : Result (List ℕ) PoolFault) where
  pub never_full : (cs : List Const) → length old + 1 < 2 ^ 16 → AllByRecursion (Named old) cs → IfErr r (λ e. e ≡ faults.Full → AreTooMany old cs) → IfErr r (λ e. e ≡ faults.Full → ⊥)
  never_full cs few all h = go r h
    where
      go : (r : Result (List ℕ) PoolFault) → IfErr r (λ e. e ≡ faults.Full → AreTooMany old cs) → IfErr r (λ e. e ≡ faults.Full → ⊥)
      go (Ok x) h = tt
      go (Err e) h = λ full. not_many old cs few (h full) all

  pub stays : (cs : List Const) → AllByRecursion (Named old) cs → IfOk r (λ _. Grows old cs new) → IfOk r (λ _. new ≡ old)
  stays cs all h = go r h
    where
      go : (r : Result (List ℕ) PoolFault) → IfOk r (λ _. Grows old cs new) → IfOk r (λ _. new ≡ old)
      go (Ok x) h = grown_same old new cs h all
      go (Err e) h = tt

  pub members_put : p ≡ None → IfOk r (λ _. new ≡ old) → IfOk r (λ bytes. AreRead new visible bytes (as_members visible table)) → IfOk r (WritesNotes old visible p table)
  members_put none same h = subst (λ (o : Option ℕ). IfOk r (WritesNotes old visible o table)) (sym none) (go r same h)
    where
      go : (r : Result (List ℕ) PoolFault) → IfOk r (λ _. new ≡ old) → IfOk r (λ bytes. AreRead new visible bytes (as_members visible table)) → IfOk r (WritesNotes old visible None table)
      go (Ok x) same h = subst (λ (t : List PoolEntry). AreRead t visible x (as_members visible table)) same h
      go (Err e) same h = tt

  pub parameters_put : (place count : ℕ) → p ≡ Some place → count < 256 → IfOk r (λ _. new ≡ old) → IfOk r (λ bytes. AreParametersRead new visible bytes (as_parameters visible table))
      → IfOk r (λ bytes. (rest : List ℕ) × (bytes ≡ count ∷ rest)) → IfOk r (WritesNotes old visible p table)
  parameters_put place count some few same h k = subst (λ (o : Option ℕ). IfOk r (WritesNotes old visible o table)) (sym some) (go r same h k)
    where
      go : (r : Result (List ℕ) PoolFault) → IfOk r (λ _. new ≡ old) → IfOk r (λ bytes. AreParametersRead new visible bytes (as_parameters visible table))
          → IfOk r (λ bytes. (rest : List ℕ) × (bytes ≡ count ∷ rest)) → IfOk r (WritesNotes old visible (Some place) table)
      go (Ok x) same h k = (subst (λ (t : List PoolEntry). AreParametersRead t visible x (as_parameters visible table)) same h, (count, k.0, few, k.1))
      go (Err e) same h k = tt

-- ---- A table with its name

pub head_is : (table : List Note) (first : Note) → 1 ≤ length table → first ≡ get_or table 0 first → (rest : List Note) × (table ≡ first ∷ rest)
head_is [] first some is = absurd (omega (arith, some))
head_is (n ∷ table) first some is = (table, ap (λ (t : Note). t ∷ table) (sym is))

module _ (pool : List PoolEntry) (table : List Note) (first : Note) (some : 1 ≤ length table) (is : first ≡ get_or table 0 first) where
  pub table_named : AllByRecursion (Named pool) (table_needs table) → AllByRecursion (Named pool) (content_needs first.parameter table) × Named pool (constants.Utf8 (table_name first))
  table_named h = go (head_is table first some is).0 (head_is table first some is).1
    where
      go : (rest : List Note) → table ≡ first ∷ rest → AllByRecursion (Named pool) (content_needs first.parameter table) × Named pool (constants.Utf8 (table_name first))
      go rest e =
          let all = subst (λ (t : List Note). AllByRecursion (Named pool) (table_needs t)) e h in
          let content = content_needs first.parameter (first ∷ rest) in
          let name = needs (constants.Utf8 (table_name first)) in (
            subst (λ (t : List Note). AllByRecursion (Named pool) (content_needs first.parameter t)) (sym e) (all_front (Named pool) content name all),
            part_named pool (constants.Utf8 (table_name first)) (all_back (Named pool) content name all),
          )

  pub table_writable : IsWritableTable table → IsWritableOf first.parameter table
  table_writable h =
      let t = head_is table first some is in
      subst (λ (notes : List Note). IsWritableOf first.parameter notes) (sym t.1) (subst IsWritableTable t.1 h)

  pub table_written : (old new content : List ℕ) → WritesNotes pool first.visible first.parameter table content → Appends (WritesNamed pool (table_name first) (λ bytes. bytes ≡ content)) old new → Appends (WritesTable pool table) old new
  table_written old new content h put =
      let t = head_is table first some is in
      let Holds = WritesNotes pool first.visible first.parameter (first ∷ t.0) in
      let holds : Holds content = subst (λ (notes : List Note). WritesNotes pool first.visible first.parameter notes content) t.1 h in
      subst (λ (notes : List Note). Appends (WritesTable pool notes) old new) (sym t.1)
      (written_as (WritesNamed pool (table_name first) (λ bytes. bytes ≡ content)) (WritesTable pool (first ∷ t.0)) old new
      (λ bytes w. content_as pool (table_name first) bytes (λ b. b ≡ content) Holds (λ b e. subst Holds (sym e) holds) w) put)

-- ---- Tables, one behind the other

-- so far the tables in front were put, and these annotations are to come
pub record TablesPut (pool : List PoolEntry) (notes : List Note) (start out : List ℕ) (rest : List Note) : Type 0 where
  pub writable : AllByRecursion IsWritableTable (tables_of rest)
  pub named : AllByRecursion (Named pool) (annotations_need rest)
  pub tables : List (List Note)
  pub split : tables_of notes ≡ tables ++ tables_of rest
  pub put : Appends (WritesEach (WritesTable pool) tables) start out

module _ (pool : List PoolEntry) (notes rest : List Note) (start out : List ℕ) (n : ℕ) (first : tables_of rest ≡ take n rest ∷ tables_of (drop n rest)) (so_far : TablesPut pool notes start out rest) where
  pub next_writable : IsWritableTable (take n rest)
  next_writable = (subst (AllByRecursion IsWritableTable) first so_far.writable).0

  split_named : AllByRecursion (Named pool) (annotations_need (drop n rest) ++ table_needs (take n rest))
  split_named = subst (λ (ts : List (List Note)). AllByRecursion (Named pool) (all_tables_need ts)) first so_far.named

  pub next_named : AllByRecursion (Named pool) (table_needs (take n rest))
  next_named = all_back (Named pool) (annotations_need (drop n rest)) (table_needs (take n rest)) split_named

  pub next_put : (new : List ℕ) → Appends (WritesTable pool (take n rest)) out new → TablesPut pool notes start new (drop n rest)
  next_put new next = record {
    writable = (subst (AllByRecursion IsWritableTable) first so_far.writable).1;
    named = all_front (Named pool) (annotations_need (drop n rest)) (table_needs (take n rest)) split_named;
    tables = so_far.tables ++ take n rest ∷ [];
    split = so_far.split ∙ ap (λ (ts : List (List Note)). so_far.tables ++ ts) first ∙ sym (append_assoc so_far.tables (take n rest ∷ []) (tables_of (drop n rest)));
    put = more_appended (WritesTable pool) so_far.tables (take n rest) start out new so_far.put next;
  }

pub nothing_put : (pool : List PoolEntry) (notes : List Note) (start : List ℕ) → AllByRecursion IsWritableTable (tables_of notes) → AllByRecursion (Named pool) (annotations_need notes) → TablesPut pool notes start start notes
nothing_put pool notes start writable named = record { writable = writable; named = named; tables = []; split = refl; put = none_appended (WritesTable pool) start }

pub all_put : (pool : List PoolEntry) (notes rest : List Note) (start out : List ℕ) → TablesPut pool notes start out rest → rest ≡ [] → Appends (WritesEach (WritesTable pool) (tables_of notes)) start out
all_put pool notes rest start out so_far none =
    let whole : tables_of notes ≡ so_far.tables = so_far.split ∙ ap (λ (t : List Note). so_far.tables ++ tables_of t) none ∙ append-nil so_far.tables in
    subst (λ (ts : List (List Note)). Appends (WritesEach (WritesTable pool) ts) start out) (sym whole) so_far.put
