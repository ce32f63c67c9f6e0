use Rattle.std.proofs.Common.{refl, arith}
use Rattle.wv_model.specs.FolderRead.{is_read}
use Rattle.wv_model.proofs.FirstFormExamples.{print_seven-typed}
use Rattle.wv_model.proofs.first_form.first_form_examples.Goals as goal

pub returns-clause-typed : goal.returns-clause-typed
returns-clause-typed c = print_seven-typed 8 (omega arith)

pub returns-clause-typed_within : goal.returns-clause-typed_within
returns-clause-typed_within c = print_seven-typed 2 (omega arith)

pub returns-clause-class_read : goal.returns-clause-class_read
unfolding is_read
returns-clause-class_read c = refl

pub returns-clause-json_read : goal.returns-clause-json_read
unfolding is_read
returns-clause-json_read c = refl

pub returns-clause-module_unread : goal.returns-clause-module_unread
unfolding is_read
returns-clause-module_unread c = refl

pub returns-clause-signature_unread : goal.returns-clause-signature_unread
unfolding is_read
returns-clause-signature_unread c = refl

pub returns-clause-loose_unread : goal.returns-clause-loose_unread
unfolding is_read
returns-clause-loose_unread c = refl

pub returns-clause-jar_unread : goal.returns-clause-jar_unread
unfolding is_read
returns-clause-jar_unread c = refl
