use Rattle.sw_set.proofs.prepare.align.align_boxes.Goals as goal

pub returns : goal.returns
returns g c = (c.requires.aligns _ _ _ _ c.ranges.attribute.fits c.requires.may).1 _ _ c.align.ensures
