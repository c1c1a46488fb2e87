-- Laws of the pass over a text, in the order in which each needs the others.
pub mod RuleClasses
pub mod Staying
pub mod PlainText
pub mod Passing
pub mod AsciiText
pub mod Kept
pub mod NumberedSelectors
pub mod Bases
pub mod Walking
