-- The number and the layer of each refusal, case by case.
use Rattle.std.specs.Prelude.{ℕ}
use Rattle.faults.specs.declared.Fault.{Fault}
use Rattle.faults.specs.declared.Fault.TheVariants.{BadSize, TooManyWindows, CellCount, NoWindow, Outside, NoPanel, PanelShown, OffScreen, PanelHidden, NoWidth, TooLong, BadAttributes, TooSmallForBox, SizesDiffer, MemoryLength, OffGrid, LineFull, NotDrawable, CursorUnknown}
use Rattle.faults.specs.declared.FaultLayer.{FaultLayer}
use Rattle.faults.specs.declared.FaultLayer.TheVariants.{Screen, Terminal}

abbrev pub number_of : Fault → ℕ
number_of BadSize = 1
number_of TooManyWindows = 2
number_of CellCount = 3
number_of NoWindow = 4
number_of Outside = 5
number_of NoPanel = 6
number_of PanelShown = 7
number_of OffScreen = 8
number_of PanelHidden = 9
number_of NoWidth = 10
number_of TooLong = 11
number_of BadAttributes = 12
number_of TooSmallForBox = 13
number_of SizesDiffer = 14
number_of MemoryLength = 15
number_of OffGrid = 21
number_of LineFull = 22
number_of NotDrawable = 23
number_of CursorUnknown = 24

abbrev pub layer_of : Fault → FaultLayer
layer_of BadSize = Screen
layer_of TooManyWindows = Screen
layer_of CellCount = Screen
layer_of NoWindow = Screen
layer_of Outside = Screen
layer_of NoPanel = Screen
layer_of PanelShown = Screen
layer_of OffScreen = Screen
layer_of PanelHidden = Screen
layer_of NoWidth = Screen
layer_of TooLong = Screen
layer_of BadAttributes = Screen
layer_of TooSmallForBox = Screen
layer_of SizesDiffer = Screen
layer_of MemoryLength = Screen
layer_of OffGrid = Terminal
layer_of LineFull = Terminal
layer_of NotDrawable = Terminal
layer_of CursorUnknown = Terminal
