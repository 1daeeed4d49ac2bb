use Rattle.sw_lang.proofs.printing.calls.write_call.Goals as goal

pub returns-in-DeleteWhere : goal.returns-in-DeleteWhere
returns-in-DeleteWhere g c = rw (c.in-DeleteWhere.is, ← c.as_slice.ensures) c.write_delete_where.ensures
