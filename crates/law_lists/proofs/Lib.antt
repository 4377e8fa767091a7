mod Reasons
mod Returning
mod Behind
mod Listing
mod Staying
mod Removing
