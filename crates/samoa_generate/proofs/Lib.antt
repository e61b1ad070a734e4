mod Casts
mod Listing
mod Parts
mod Valid
