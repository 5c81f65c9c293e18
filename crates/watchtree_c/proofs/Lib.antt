mod AsBox
mod Fits
mod Listing
mod Opening
mod Numbers
mod Recorded
mod Unmade
