-- What a call of the loader answers, of what was read and woven.
use Rattle.std.proofs.Common.{◌≡◌, ℕ, List, [], take, length, arith, Result, Option, Some, None, refl, sym, ap, subst, ◌∙◌, inr}
use Rattle.std.proofs.lemmas.List.{append-nil, take_all}
use Rattle.wv_base.specs.Folder.{File, IsInOrder}
use Rattle.wv_base.specs.Line.{refusal}
use Rattle.wv_base.specs.declared.broken.Broken.{Broken}
use Rattle.wv_tree.specs.Sink.{with_bytes, AddsFirst}
use Rattle.wv_tree.specs.Tree.{Folders}
use Rattle.wv_tree.specs.declared.outlet.PutFile.{PutFile}
use Rattle.wv_base.specs.declared.side.Side.{Side}
use Rattle.wv_front.specs.declared.fault.WeaveFault.{WeaveFault}
use Rattle.wv_weave.specs.declared.weaver.Woven.{Woven}
use Rattle.wv_top.specs.declared.reading.Reading.{Reading}
use Rattle.wv_top.specs.declared.status.Status.TheVariants.{Done, Refused, Usage, WriteFault, Memory}
use Rattle.wv_top.specs.Words.{Command}
use Rattle.wv_top.specs.Lines.{usage_line, summary_of}
use Rattle.wv_top.specs.Reading.{WhereTold, IsReadingOf}
use Rattle.wv_top.specs.Rules.{AreWovenTo, FirstBrokenOf, IsWovenOf, MeansOf, NoneBrokenOf, Weaves}
use Rattle.wv_top.specs.Puts.{IsWovenFor, Puts, with_files}
use Rattle.wv_top.specs.Ends.{FitsRules, IsDone, IsLineOf, Prints, refuses, sums_up}
use Rattle.wv_top.proofs.ReadFolder.{where_from}

-- what is told, if anything, has nothing behind it
none_added : (told : Option (List ℕ)) → told ≡ with_bytes [] told
none_added None = refl
none_added (Some bytes) = ap Some (sym (append-nil bytes))

-- words that are no command
pub usage_printed : (asked : Option Command) (told : Option Folders) (before now : Option (List ℕ)) → None ≡ asked → now ≡ with_bytes usage_line before → Prints asked told Usage before now
usage_printed asked told before now is added =
    subst (λ (o : Option Command). Prints o told Usage before now) is added

pub usage_failed : (asked : Option Command) (told : Option Folders) (before now : Option (List ℕ)) → None ≡ asked → AddsFirst usage_line before now → Prints asked told WriteFault before now
usage_failed asked told before now is added =
    subst (λ (o : Option Command). Prints o told WriteFault before now) is added

-- what the weave answers of the files that are told
pub weaves_told : (told : Option Folders) (name : List ℕ) (side : Side) (reading : Reading) (result : Result Woven WeaveFault) → WhereTold told name (λ files. IsReadingOf files reading) → ((files : List File) → IsReadingOf files reading → Weaves files side result)
    → WhereTold told name (λ files. Weaves files side result)
weaves_told told name side reading result read weaves =
    where_from told name (λ files. IsReadingOf files reading) (λ files. Weaves files side result) read weaves

module _ (asked : Option Command) (command : Command) (told : Option Folders) (is : Some command ≡ asked) where
  -- ---- A rule is broken

  pub refused_rules : (broken : Broken) → WhereTold told command.folder (λ files. FirstBrokenOf files command.side broken) → FitsRules asked told Refused
  refused_rules broken first =
      subst (λ (o : Option Command). FitsRules o told Refused) is
      (where_from told command.folder (λ files. FirstBrokenOf files command.side broken) (λ files. (b : Broken) × FirstBrokenOf files command.side b) first (λ files f. (broken, f)))

  pub failed_rules : FitsRules asked told WriteFault
  failed_rules = subst (λ (o : Option Command). FitsRules o told WriteFault) is tt

  pub refused_printed : (broken : Broken) (before now : Option (List ℕ)) → WhereTold told command.folder (λ files. FirstBrokenOf files command.side broken) → now ≡ with_bytes (refusal broken) before → Prints asked told Refused before now
  refused_printed broken before now first added =
      subst (λ (o : Option Command). Prints o told Refused before now) is (broken, first, added)

  pub refusal_failed : (broken : Broken) (before now : Option (List ℕ)) → WhereTold told command.folder (λ files. FirstBrokenOf files command.side broken) → AddsFirst (refusal broken) before now → Prints asked told WriteFault before now
  refusal_failed broken before now first added =
      subst (λ (o : Option Command). Prints o told WriteFault before now) is (
        refusal broken,
        where_from told command.folder (λ files. FirstBrokenOf files command.side broken) (λ files. IsLineOf files command.side (refusal broken)) first (λ files f. refuses f),
        added,
      )

  -- ---- No rule is broken

  module _ (woven : Woven) (weaves : WhereTold told command.folder (λ files. AreWovenTo files command.side woven)) where
    none_told : WhereTold told command.folder (λ files. NoneBrokenOf files command.side)
    none_told =
        where_from told command.folder (λ files. AreWovenTo files command.side woven) (λ files. NoneBrokenOf files command.side) weaves (λ files are. are.none)

    woven_told : WhereTold told command.folder (λ files. IsWovenOf files command.side woven)
    woven_told =
        where_from told command.folder (λ files. AreWovenTo files command.side woven) (λ files. IsWovenOf files command.side woven) weaves (λ files are. are.meets)

    woven_for : IsInOrder woven.files → IsWovenFor command told woven
    woven_for order = record {
      order = order;
      meets = woven_told;
      means = where_from told command.folder (λ files. AreWovenTo files command.side woven) (λ files. MeansOf files command.side woven.files) weaves (λ files are. are.means);
    }

    pub done_rules : FitsRules asked told Done
    done_rules = subst (λ (o : Option Command). FitsRules o told Done) is none_told

    pub done_puts : (before now : Option (List PutFile)) → IsInOrder woven.files → now ≡ with_files command.out woven.files before → Puts asked told Done before now
    done_puts before now order added =
        subst (λ (o : Option Command). Puts o told Done before now) is (woven, woven_for order, added)

    pub done_printed : (before now : Option (List ℕ)) (line : List ℕ) → line ≡ summary_of woven → now ≡ with_bytes line before → Prints asked told Done before now
    done_printed before now line same added =
        subst (λ (o : Option Command). Prints o told Done before now) is
        (woven, woven_told, added ∙ ap (λ (l : List ℕ). with_bytes l before) same)

    pub done_whole : (put put_now : Option (List PutFile)) (printed printed_now : Option (List ℕ)) (line : List ℕ) → IsInOrder woven.files → put_now ≡ with_files command.out woven.files put → line ≡ summary_of woven → printed_now ≡ with_bytes line printed → IsDone Done asked told put put_now printed printed_now
    done_whole put put_now printed printed_now line order added same written =
        subst (λ (o : Option Command). IsDone Done o told put put_now printed printed_now) is
        (woven, woven_for order, added, written ∙ ap (λ (l : List ℕ). with_bytes l printed) same)

    pub failed_puts : (before now : Option (List PutFile)) (count : ℕ) → IsInOrder woven.files → now ≡ with_files command.out (take count woven.files) before → Puts asked told WriteFault before now
    failed_puts before now count order added =
        subst (λ (o : Option Command). Puts o told WriteFault before now) is (inr (woven, count, woven_for order, added))

    pub starved_puts : (before now : Option (List PutFile)) (count : ℕ) → IsInOrder woven.files → now ≡ with_files command.out (take count woven.files) before → Puts asked told Memory before now
    starved_puts before now count order added =
        subst (λ (o : Option Command). Puts o told Memory before now) is (inr (woven, count, woven_for order, added))

    line_told : WhereTold told command.folder (λ files. IsLineOf files command.side (summary_of woven))
    line_told =
        where_from told command.folder (λ files. AreWovenTo files command.side woven) (λ files. IsLineOf files command.side (summary_of woven)) weaves (λ files are. sums_up are.none are.meets)

    pub summary_failed : (before now : Option (List ℕ)) (line : List ℕ) → line ≡ summary_of woven → AddsFirst line before now → Prints asked told WriteFault before now
    summary_failed before now line same added =
        subst (λ (o : Option Command). Prints o told WriteFault before now) is
        (summary_of woven, line_told, subst (λ (l : List ℕ). AddsFirst l before now) same added)

    pub puts_failed : (before : Option (List ℕ)) → Prints asked told WriteFault before before
    puts_failed before = summary_failed before before (summary_of woven) refl (0, none_added before)

-- all of the files are some first ones of them
pub all_added : (name : List ℕ) (files : List File) (before now : Option (List PutFile)) → now ≡ with_files name files before → now ≡ with_files name (take (length files) files) before
all_added name files before now added =
    added ∙ ap (λ (fs : List File). with_files name fs before) (sym (take_all (length files) files (omega arith)))
