mod ClockChains
mod CountSteps
mod NetlistMeans
mod TextMeans
mod Causes
