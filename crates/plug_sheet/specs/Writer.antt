-- What a text in a buffer gains when bytes are put after it.
use Rattle.std.specs.Prelude.{ℕ, ◌+◌, ◌≡◌, List, length, min}
use Rattle.plug_sheet.specs.declared.list.Text.{Text}
use Rattle.plug_sheet.specs.Text.{put_at}

-- these bytes come after the text, in the same buffer, as far as it goes
pub record Gains (old : Text) (bytes : List ℕ) (new : Text) : Type 0 where
  pub same : new.buffer.ghost_name ≡ old.buffer.ghost_name
  pub size : new.size ≡ min (old.size + length bytes) (length old.buffer.now)
  pub buffer : new.buffer.now ≡ put_at old.size bytes old.buffer.now
