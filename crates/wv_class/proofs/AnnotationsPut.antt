-- Putting the constants of annotations into a pool, table by table.
use Rattle.std.proofs.Common.{◌≡◌, ℕ, List, [], ◌∷◌, ◌++◌, take, drop, Option, Some, None, Result, Ok, Err, refl, sym, ap, subst, ◌∙◌, append_assoc}
use Rattle.std.specs.Prelude.{IsErrAnd, slice_get}
use Rattle.std.specs.List.{AllByRecursion}
use Rattle.std.proofs.lemmas.List.{append-nil}
use Rattle.wv_base.specs.declared.class_file.PoolEntry.{PoolEntry}
use Rattle.wv_base.specs.declared.constant.Const.{Const}
use Rattle.wv_base.specs.declared.constant.Const.TheVariants as constants
use Rattle.wv_base.specs.declared.note.Note.{Note}
use Rattle.wv_pool.specs.declared.add.PoolFault.{PoolFault}
use Rattle.wv_pool.specs.Adding.{Grows}
use Rattle.wv_pool.proofs.Behind.{some_is}
use Rattle.wv_pool.proofs.Lacking.{grows_start}
use Rattle.wv_attr.proofs.PoolGrowth.{grows_then}
use Rattle.wv_class.specs.Enterable.{PutsAll, IsWritableTable, AreWritableTables}
use Rattle.wv_class.specs.Needs.{content_needs, table_needs, annotations_need, all_tables_need}
use Rattle.wv_class.specs.Tables.{tables_of, table_name}
use Rattle.wv_class.proofs.Growth.{puts_then, puts_failed}

-- ---- One table

pub empty_needs : (table : List Note) → slice_get table 0 ≡ None → table_needs table ≡ []
empty_needs [] e = refl
empty_needs (note ∷ notes) e = absurd cc

pub first_needs : (table : List Note) (first : Note) → slice_get table 0 ≡ Some first → table_needs table ≡ content_needs first.parameter table ++ constants.Utf8 (table_name first) ∷ []
first_needs [] first e = absurd cc
first_needs (note ∷ notes) first e = ap (λ (n : Note). content_needs n.parameter (note ∷ notes) ++ constants.Utf8 (table_name n) ∷ []) (some_is note first e)

-- ---- All tables

-- the constants of the annotations before the rest are in the pool
pub record TablesPut (old : List PoolEntry) (notes rest : List Note) (new : List PoolEntry) : Type 0 where
  pub done : List Const
  pub parts : annotations_need notes ≡ annotations_need rest ++ done
  pub grows : Grows old done new
  pub writable : AreWritableTables rest

pub none_put : (pool : List PoolEntry) (notes : List Note) → AreWritableTables notes → TablesPut pool notes notes pool
none_put pool notes writable = record { done = []; parts = sym (append-nil (annotations_need notes)); grows = grows_start pool; writable = writable }

pub all_put : (old : List PoolEntry) (notes rest : List Note) (new : List PoolEntry) → rest ≡ [] → TablesPut old notes rest new → Grows old (annotations_need notes) new
all_put old notes [] new is put = subst (λ (cs : List Const). Grows old cs new) (sym put.parts) put.grows
all_put old notes (n ∷ rest) new is put = absurd cc

module _ (old middle new : List PoolEntry) (notes rest table others : List Note) (split : tables_of rest ≡ table ∷ tables_of others) (put : TablesPut old notes rest middle) where
  writable_both : AllByRecursion IsWritableTable (table ∷ tables_of others)
  writable_both = subst (AllByRecursion IsWritableTable) split put.writable

  pub table_writable : IsWritableTable table
  table_writable = writable_both.0

  needs_both : annotations_need rest ≡ annotations_need others ++ table_needs table
  needs_both = ap all_tables_need split

  needs_all : annotations_need notes ≡ annotations_need others ++ (table_needs table ++ put.done)
  needs_all = put.parts ∙ ap (λ (cs : List Const). cs ++ put.done) needs_both ∙ append_assoc (annotations_need others) (table_needs table) put.done

  -- a table more
  pub table_put : Grows middle (table_needs table) new → TablesPut old notes others new
  table_put grows = record {
    done = table_needs table ++ put.done;
    parts = needs_all;
    grows = grows_then old middle new put.done (table_needs table) put.grows grows;
    writable = writable_both.1;
  }

  -- where a table fails, all do
  pub table_failed : (e : PoolFault) (r : Result (Unit {0}) PoolFault) → IsErrAnd r (λ x. x ≡ e) → PutsAll middle new (table_needs table) (Err e) → PutsAll old new (annotations_need notes) r
  table_failed e r given h =
      subst (λ (cs : List Const). PutsAll old new cs r) (sym needs_all)
      (puts_failed old new (table_needs table ++ put.done) (annotations_need others) e r given (puts_then old middle new put.done (table_needs table) (Err e) put.grows h))
