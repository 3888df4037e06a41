pub mod StepLists
mod JoinedSteps
mod EachStep
mod Fronts
mod Taking
mod Finding
mod Telling
pub mod Feeding
