-- The filed text (document 01, "Replacement and text"; "filed text" is document 01's term).
use Rattle.std.specs.Prelude.{Bool, cond, List, ℕ, leb, length, take}

-- "The filed text is the message's own bytes, or the buffer's if changed. Of the buffer it is the front of the formatted
-- length, or all of it where that length passes it."
unfoldable pub filed_text : List ℕ → List ℕ → Bool → ℕ → List ℕ
filed_text message buffer changed len = cond changed (cond (leb len (length buffer)) (take len buffer) buffer) message
