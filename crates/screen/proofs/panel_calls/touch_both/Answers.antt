use Rattle.touching.proofs.TouchingLaws.{touching_then}
use Rattle.screen.proofs.panel_calls.touch_both.Goals as goal

pub returns : goal.returns
returns c = touching_then c.args.touched.now c.touch_panel.new.touched c.touch_panel-2.new.touched _ _ c.touch_panel.ensures c.touch_panel-2.ensures
