-- The bytes that a window holds.
use Rattle.std.specs.Prelude.{ℕ, List, take}
use Rattle.reader.specs.declared.window.Window.{Window}

abbrev pub bytes : Window → List ℕ
bytes w = take w.held w.buffer
