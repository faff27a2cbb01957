-- The tree of the beginnings of patterns: adding patterns to it, and which beginnings take the names on the way.
pub mod Adding
pub mod Fronts
pub mod Gathering
pub mod Growing
pub mod Keys
pub mod LastName
pub mod Leading
pub mod Literals
pub mod Looking
pub mod Names
pub mod Patterns
pub mod Queries
pub mod Refusing
pub mod SameTexts
pub mod Trees
pub mod Walking
