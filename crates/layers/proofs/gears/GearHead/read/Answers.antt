use Rattle.layers.proofs.Gearing.{answered_below, gear_passed, scaled_fits}
use Rattle.layers.proofs.gears.GearHead.read.Goals as goal

pub scaled-requires : goal.scaled-requires
scaled-requires g c =
    let s = c.args.self.now in
    scaled_fits c.in_ok-reading.reading s.scale _
    (answered_below _ _ _ c.in_ok-reading.reading (g.H.Head.waiting s.below) (g.H.Head.laws.below s.below) c.in_ok-reading.ensures.answers)
    (gear_passed s.scale s.slack (g.H.Head.shape s.below) _ c.in_ok-fit_figures.ensures)
