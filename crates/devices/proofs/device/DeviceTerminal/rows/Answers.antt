use Rattle.devices.proofs.device.DeviceTerminal.rows.Goals as goal

pub returns-clause-sound : goal.returns-clause-sound
returns-clause-sound g c =
    let shown = c.size.ensures.sound in
    record { tall = shown.tall; wide = shown.wide; cursor_row = shown.cursor_row; cursor_column = shown.cursor_column; small_need = shown.small_need }
