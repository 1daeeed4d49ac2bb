use Rattle.std.proofs.Common.{◌≡◌, ◌∙◌, ap, sym, length, Some, None, ◌∷◌, [], arith}
use Rattle.json.specs.Token.{Token}
use Rattle.json.specs.Lex.{tokens}
use Rattle.json.specs.Json.{members, parse_map, value}
use Rattle.json.specs.Reads.{token_of}
use Rattle.json.proofs.Grammar.{value-begin_object}
use Rattle.serde_json.specs.Data.{object}
use Rattle.serde_json.specs.Read.{converted, of_json, read}
use Rattle.sw_histories.specs.Outlines.{after_brace}
use Rattle.sw_histories.proofs.Found.ValueReading.{converted-object, whole_and_more, whole_read, whole_refused}
use Rattle.sw_histories.proofs.Found.OutlineLemmas.{no_brace, none_of}
use Rattle.sw_histories.proofs.reading.outline.read_outline.Goals as goal

pub returns-in_default-next-clause-err : goal.returns-in_default-next-clause-err
returns-in_default-next-clause-err c invalid =
    let apart : after_brace c.in-Ok.reader ≡ None = grind arith in
    no_brace c.args.text.now (ap after_brace (sym c.in-Ok.ensures.ok) ∙ apart)

pub returns-in-Err-clause-err : goal.returns-in-Err-clause-err
returns-in-Err-clause-err c invalid =
    let ts = c.next.new.self in
    let first : c.in-Ok.reader ≡ Token.begin_object ∷ ts = grind arith in
    let opened = ap (converted of_json) (ap (value 127) (sym c.in-Ok.ensures.ok ∙ first) ∙ value-begin_object 127 ts (omega arith)) ∙ converted-object (members (value 126) (length ts) ts) in
    none_of (read c.args.text.now) (whole_refused (value 127 (tokens c.args.text.now)) (opened ∙ ap (parse_map object) (c.in-Err.ensures.err invalid)))

pub returns-in-Some-clause-err : goal.returns-in-Some-clause-err
returns-in-Some-clause-err c invalid =
    let ts = c.next.new.self in
    let first : c.in-Ok.reader ≡ Token.begin_object ∷ ts = grind arith in
    let opened = ap (converted of_json) (ap (value 127) (sym c.in-Ok.ensures.ok ∙ first) ∙ value-begin_object 127 ts (omega arith)) ∙ converted-object (members (value 126) (length ts) ts) in
    let o = c.in-Ok-outline_members.ensures.ok in
    let t = token_of c.in-Some.field-0 in
    let r = c.next-2.new.self in
    let more : c.outline_members.new.reader ≡ t ∷ r = grind arith in
    none_of (read c.args.text.now) (whole_and_more (value 127 (tokens c.args.text.now)) (object o.all) t r (opened ∙ ap (parse_map object) o.read ∙ ap (λ us. Some (object o.all, us)) more))

pub returns-in-None-clause-ok : goal.returns-in-None-clause-ok
returns-in-None-clause-ok c =
    let ts = c.next.new.self in
    let first : c.in-Ok.reader ≡ Token.begin_object ∷ ts = grind arith in
    let opened = ap (converted of_json) (ap (value 127) (sym c.in-Ok.ensures.ok ∙ first) ∙ value-begin_object 127 ts (omega arith)) ∙ converted-object (members (value 126) (length ts) ts) in
    let o = c.in-Ok-outline_members.ensures.ok in
    let over : c.outline_members.new.reader ≡ [] = grind arith in
    record {
      all = o.all;
      begun = ts;
      is_begun = ap after_brace (sym c.in-Ok.ensures.ok ∙ first);
      read = whole_read (value 127 (tokens c.args.text.now)) (object o.all) (opened ∙ ap (parse_map object) o.read ∙ ap (λ r. Some (object o.all, r)) over);
      outline = o.outline;
      entries = o.entries;
      rows = o.rows;
    }
