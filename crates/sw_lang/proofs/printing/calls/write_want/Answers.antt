use Rattle.sw_lang.proofs.printing.calls.write_want.Goals as goal

pub returns-in-Rows : goal.returns-in-Rows
returns-in-Rows g c = rw (c.in-Rows.is, ← c.as_slice.ensures) c.write_select.ensures
