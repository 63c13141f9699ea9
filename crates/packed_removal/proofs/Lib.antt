pub mod ForBody
