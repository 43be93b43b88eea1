pub mod Classes
pub mod Runs
pub mod Numerals
pub mod Scanned
mod Tested
mod WorkedTexts
mod WorkedPrinted
pub mod Names
pub mod Sizes
pub mod Bytes
pub mod Quoted
pub mod Firsts
pub mod OneText
pub mod Settled
pub mod Alike
pub mod Forms
pub mod ValuesRead
pub mod Nodes
pub mod Unique
pub mod GraphRead
pub mod OneGraph
pub mod Real
pub mod Steps
pub mod Taken
pub mod Back
pub mod Fills
pub mod GoOn
pub mod NamesRead
pub mod NamesDue
pub mod OneFault
pub mod Faults
pub mod Stated
