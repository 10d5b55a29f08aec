use Rattle.touching.proofs.TouchingLaws.{touching_then, touching_like}
use Rattle.panels.specs.Decks.{deck_of}
use Rattle.screen.proofs.Hits.{edge_hit}
use Rattle.screen.proofs.boxes.touch_edge.Goals as goal

pub returns : goal.returns
returns c =
    let two = touching_then c.args.touched.now c.touch_area.new.touched c.touch_area-2.new.touched _ _ c.touch_area.ensures c.touch_area-2.ensures in
    touching_like c.args.touched.now c.touch_area-3.new.touched _ _ (λ r x _ _. edge_hit (deck_of c.args.panels.now) c.args.area r x)
    (touching_then c.args.touched.now c.touch_area-2.new.touched c.touch_area-3.new.touched _ _ two c.touch_area-3.ensures)
