use Rattle.std.proofs.Common.{◌≡◌, ◌∙◌, sym, true, length, arith, nat_lt}
use Rattle.std.proofs.lemmas.Bool.{lt-ltb}
use Rattle.sw_lang.specs.Reading.{is_comment}
use Rattle.sw_lang.specs.declared.reading.parse.TheConstants.{MOST_LINE}
use Rattle.sw_lang.proofs.Known.Knowing.{none_of_a_comment, none_of_a_long_line}
use Rattle.sw_lang.proofs.reading.learning.learn_line.Goals as goal

pub returns-then-text-gt-MOST_LINE-clause-learned : goal.returns-then-text-gt-MOST_LINE-clause-learned
returns-then-text-gt-MOST_LINE-clause-learned c =
    let long : nat_lt MOST_LINE (length c.args.text.now) ≡ true = lt-ltb _ _ (omega (arith, c.if-text-gt-MOST_LINE.true, c.as_bytes-text.ensures.len)) in
    none_of_a_long_line c.args.schema.now c.args.text.now c.len-count.ensures.schema long

pub returns-then-is_comment-clause-learned : goal.returns-then-is_comment-clause-learned
returns-then-is_comment-clause-learned c =
    let comment : is_comment c.args.text.now ≡ true = sym (rw c.as_bytes-text.ensures.value at c.is_comment.ensures) ∙ c.if-is_comment.true in
    none_of_a_comment c.args.schema.now c.args.text.now c.len-count.ensures.schema comment
