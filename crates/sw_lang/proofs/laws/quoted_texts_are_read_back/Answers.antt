use Rattle.sw_lang.proofs.Printed.Utf8.{quoted_utf8}
use Rattle.sw_lang.proofs.Printed.Quoted.{front_quoted, quoted_length, undoubled-doubled}
use Rattle.sw_lang.proofs.laws.quoted_texts_are_read_back.Goals as goal

pub returns-clause-read : goal.returns-clause-read
returns-clause-read c = front_quoted

pub returns-clause-same : goal.returns-clause-same
returns-clause-same c = undoubled-doubled

pub returns-clause-few_bytes : goal.returns-clause-few_bytes
returns-clause-few_bytes c = quoted_length

pub returns-clause-utf8 : goal.returns-clause-utf8
returns-clause-utf8 c = quoted_utf8
