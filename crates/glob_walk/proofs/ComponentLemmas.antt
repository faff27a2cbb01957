-- In the order of the argument: a decider without places, cuts, whole names, levels, the whole pattern.
pub mod Fits
pub mod FirstSeparator
pub mod WholeNames
pub mod Parts
pub mod LevelByLevel
pub mod JoinedUnits
pub mod SeparatorRule
pub mod JoinedComponents
