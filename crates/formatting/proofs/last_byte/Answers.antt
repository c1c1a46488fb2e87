-- `formatting::last_byte` meets its contract.
use Rattle.std.specs.Prelude.{Some}
use mathlib.Core.Path.{ap, ◌∙◌}
use Rattle.formatting.proofs.Surveying.{emoji_bytes, text_bytes}
use Rattle.emoji.specs.declared.presentation.Presentation.{Presentation}
use Rattle.text_pass.specs.Changes.{selector_bytes}
use Rattle.formatting.proofs.last_byte.Goals as goal

pub returns-in-Text : goal.returns-in-Text
returns-in-Text c = ap (λ (q : Presentation). selector_bytes (Some q)) c.in-Text.is ∙ text_bytes

pub returns-in-Emoji : goal.returns-in-Emoji
returns-in-Emoji c = ap (λ (q : Presentation). selector_bytes (Some q)) c.in-Emoji.is ∙ emoji_bytes
