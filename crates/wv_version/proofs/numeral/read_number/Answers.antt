use Rattle.std.proofs.Common.{◌≡◌, true, ap, sym, ◌∙◌}
use Rattle.std.specs.Result.{result_ok}
use Rattle.std.specs.Str.Parse.{AllDigits}
use Rattle.std.proofs.lemmas.Str.Parse.{parse_gives, numerals_by_value, tells_digits}
use Rattle.wv_version.specs.Reading.{is_numeral}
use Rattle.wv_version.proofs.Numerals.{is_numeral-found, number_bound, reads_numbers}
use Rattle.wv_version.proofs.numeral.read_number.Goals as goal

pub returns : goal.returns
returns c =
    let is : is_numeral c.args.text.now ≡ true = cc in
    let h = is_numeral-found c.args.text.now is in
    let gives = parse_gives (numerals_by_value (AllDigits 10) tells_digits) 64 c.args.text.now c.parse.result c.parse.ensures.value.0 h.digits h.not_empty (number_bound _ _ h) in
    c.ok.ensures.value ∙ ap result_ok gives ∙ sym (reads_numbers.only _ _ h)
