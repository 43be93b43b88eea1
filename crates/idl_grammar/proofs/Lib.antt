mod Levels
pub mod Combine
mod ExpressionParts
mod ExpressionsExact
mod OuterExact
mod SimpleExact
pub mod AttributesExact
mod AttributeLists
mod DeclaratorsExact
mod BodiesExact
mod TypeParts
mod TypeLists
mod Tagged
mod TypeAlternatives
mod TypesExact
mod ParameterExact
pub mod ParametersExact
pub mod ExportsExact
pub mod FileExact
pub mod FileLaws
pub mod Rows
pub mod FileExamples
pub mod RealTokens
pub mod Formed
pub mod Identifiers
pub mod Clean
mod CleanFile
mod BannedWords
pub mod Exact
pub mod Parts
pub mod Within
pub mod Fails
pub mod Gathered
pub mod OneVerdict
pub mod Judged
pub mod Sequences
mod Apart
